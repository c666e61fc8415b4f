-- `lampsaffron_departs`: the tests in their order, and what was found against the sheet.
use Rattle.std.proofs.Common.{arith}
use Rattle.laws.specs.First.{fails, holds}
use Rattle.index.proofs.Replies as replies
use Rattle.lampsaffron.specs.Departs.{DepartsNumber, DepartsFromSheet}
use Rattle.lampsaffron.proofs.ListingLaws.{refused-number, as-passed}
use Rattle.lampsaffron.proofs.HeldLaws.{kept-so, refused-not-15}
use Rattle.lampsaffron.proofs.ListDeeds.{departs-deeds}
use Rattle.lampsaffron.proofs.departs.lampsaffron_departs.Goals as goal

pub returns-then-not-fit-clause-number : goal.returns-then-not-fit-clause-number
returns-then-not-fit-clause-number c = fails (replies.fails (rw c.lent-lent.ensures.counts at c.fit.ensures) c.if-not-fit.true)

pub returns-then-not-fit-clause-deeds : goal.returns-then-not-fit-clause-deeds
returns-then-not-fit-clause-deeds c = λ u s.
    departs-deeds _ _ u s (kept-so (returns-then-not-fit-clause-number c) (λ e. omega arith))

pub returns-then-not-is_whole-clause-number : goal.returns-then-not-is_whole-clause-number
returns-then-not-is_whole-clause-number c =
    let fit = rw c.lent-lent.ensures.counts at c.fit.ensures in
    holds (fit.0 c.if-not-fit.false) (fails (replies.fails c.is_whole.ensures c.if-not-is_whole.true))

pub returns-then-not-is_whole-clause-deeds : goal.returns-then-not-is_whole-clause-deeds
returns-then-not-is_whole-clause-deeds c = λ u s.
    departs-deeds _ _ u s (kept-so (returns-then-not-is_whole-clause-number c) (λ e. omega arith))

pub returns-in-Err-clause-number : goal.returns-in-Err-clause-number
returns-in-Err-clause-number c =
    let l = c.lent-lent.ensures in
    let fit = c.fit.ensures.0 c.if-not-fit.false in
    let whole = c.is_whole.ensures.0 c.if-not-is_whole.false in
    as-passed c.lent-lent.result l.counts l.tables (λ k t. DepartsNumber k t c.args.list.now c.number.result)
    (rw (c.number.ensures.number, c.answer.ensures)
    (holds fit (holds whole (refused-number c.lent-lent.result fit c.in-Err.refusal c.in-Err.ensures.refused _))))

pub returns-in-Err-clause-deeds : goal.returns-in-Err-clause-deeds
returns-in-Err-clause-deeds c = λ u s.
    departs-deeds _ _ u s
    (kept-so (returns-in-Err-clause-number c) (rw (c.number.ensures.number, c.answer.ensures) (refused-not-15 c.in-Err.refusal)))

pub returns-then-not-entries_declared-clause-number : goal.returns-then-not-entries_declared-clause-number
returns-then-not-entries_declared-clause-number c =
    let l = c.lent-lent.ensures in
    let fit = c.fit.ensures.0 c.if-not-fit.false in
    let whole = c.is_whole.ensures.0 c.if-not-is_whole.false in
    let p = rw c.in-Ok.ensures.ok at c.in-Ok.checked.passes in
    let other = replies.fails c.entries_declared.ensures c.if-not-entries_declared.true in
    as-passed c.lent-lent.result l.counts l.tables (λ k t. DepartsNumber k t c.args.list.now 6)
    (holds fit (holds whole (holds p.tables (holds p.numbers (fails other)))))

pub returns-then-not-entries_declared-clause-deeds : goal.returns-then-not-entries_declared-clause-deeds
returns-then-not-entries_declared-clause-deeds c = λ u s.
    departs-deeds _ _ u s (kept-so (returns-then-not-entries_declared-clause-number c) (λ e. omega arith))

pub returns-clause-number : goal.returns-clause-number
returns-clause-number c =
    let l = c.lent-lent.ensures in
    let fit = c.fit.ensures.0 c.if-not-fit.false in
    let whole = c.is_whole.ensures.0 c.if-not-is_whole.false in
    let p = rw c.in-Ok.ensures.ok at c.in-Ok.checked.passes in
    let declared = c.entries_declared.ensures.0 c.if-not-entries_declared.false in
    as-passed c.lent-lent.result l.counts l.tables (λ k t. DepartsNumber k t c.args.list.now c.hold.result)
    (holds fit (holds whole (holds p.tables (holds p.numbers (holds declared (rw c.in-Ok.ensures.ok at c.hold.ensures.number))))))

pub returns-clause-departs : goal.returns-clause-departs
returns-clause-departs c = λ z.
    let l = c.lent-lent.ensures in
    as-passed c.lent-lent.result l.counts l.tables (λ k t. DepartsFromSheet k t c.args.list.now c.hold.new.entry)
    (rw c.in-Ok.ensures.ok at (c.hold.ensures.departs z))

pub returns-clause-deeds : goal.returns-clause-deeds
returns-clause-deeds c = λ u s.
    departs-deeds _ _ u s
    (record { number_is = returns-clause-number c; departs = returns-clause-departs c; kept = c.hold.ensures.kept })
