use Rattle.std.proofs.Common.{sym, ◌∙◌}
use Rattle.intake.proofs.EntryLaws.{entry_taken, entry-differs, entry-short}
use Rattle.intake.proofs.comparison.take_next.Goals as goal
use Rattle.intake.proofs.comparison.take_next.Goals.{else-eq-via-then-eq+else-line-count, else-eq-via-else-eq}

pub returns-then-line-count-clause-taken : goal.returns-then-line-count-clause-taken
returns-then-line-count-clause-taken g c =
    let is = c.as_slice-line.ensures ∙ c.line_of-text.ensures in
    entry_taken _ is c.held-held.ensures c.min-count.ensures _ c.in_ok-fill.ensures.ok _ _ c.in_ok-fill.ensures.left c.consume.ensures.held
    c.consume.ensures.behind (sym c.eq.ensures ∙ c.if-eq.true) c.if-line-count.true

pub returns-clause-other : goal.returns-clause-other
returns-clause-other g c =
    let is = c.as_slice-line.ensures ∙ c.line_of-text.ensures in
    elim c.else-eq.branch [
      | else-eq-via-then-eq+else-line-count w ↦
          entry-short _ is c.held-held.ensures c.min-count.ensures _ c.in_ok-fill.ensures.ok w.if-line-count.false
      | else-eq-via-else-eq w ↦
          entry-differs _ is c.held-held.ensures c.min-count.ensures _ c.in_ok-fill.ensures.ok (sym c.eq.ensures ∙ w.if-eq.false)
    ]
