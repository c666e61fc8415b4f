-- `transpose`: none, one state more, and at the end all to which the relation leads.
use Rattle.sets.proofs.Gathering.{over_start, over_more, over_end}
use Rattle.walk.proofs.DirectedLaws.{leading_to, turning_none, turning_more, turning_end}
use Rattle.walk.proofs.directed.transpose.Goals as goal

pub loop-t-init : goal.loop-t-init
loop-t-init c =
    rw (c.nowhere-out.ensures, c.into_iter-t-iterator.ensures.into_iter_gives, c.iter-t-items.ensures)
    (over_start (λ none. turning_none _ none))

pub loop-t-preserved : goal.loop-t-preserved
loop-t-preserved c =
    let low = c.in-Some.ensures.steps.within in
    over_more c.loop-t.invariant c.in-Some.ensures.steps
    (λ x v. turning_more _ _ x low (leading_to _ _ _ _ low c.only.ensures c.preimage.ensures) v)

pub returns : goal.returns
returns c =
    let i = c.loop-t.invariant in
    let w = rw (c.into_iter-t-iterator.ensures.into_iter_gives, c.iter-t-items.ensures) at i in
    over_end w c.in-None.ensures.steps.0 (λ same v. turning_end _ _ same c.ends_of-ends.ensures v)
