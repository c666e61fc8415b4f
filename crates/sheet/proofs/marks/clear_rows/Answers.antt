-- One state more, and at the end all from which the pairs lead.
use Rattle.sets.proofs.Gathering.{over_more}
use Rattle.sheet.proofs.Laws.{drops_more, pairs_dropped}
use Rattle.sheet.proofs.marks.clear_rows.Goals as goal

pub loop-s-preserved : goal.loop-s-preserved
loop-s-preserved c = over_more c.loop-s.invariant c.in-Some.ensures.steps (λ x v. drops_more _ x v c.clear_from.ensures)

pub returns : goal.returns
returns c =
    let i = c.loop-s.invariant in
    let w = rw (c.into_iter-s-iterator.ensures.into_iter_gives, c.iter-s-items.ensures) at i in
    pairs_dropped _ w c.in-None.ensures.steps.0 c.starts_of-from.ensures
