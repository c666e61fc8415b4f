-- `further`: none, one role more, all.
use Rattle.laws.specs.Loops.{witness_more, witness_same}
use Rattle.sets.proofs.Gathering.{over_start, over_more, over_end}
use Rattle.walk.proofs.CoReachableLaws.{adds_none, adds_as, adds_then, steps_all}
use Rattle.walk.proofs.coreachable.further.Goals as goal

pub loop-role-init : goal.loop-role-init
loop-role-init c =
    rw (c.into_iter-role-iterator.ensures.into_iter_gives, c.iter-role-items.ensures)
    (over_start (λ none. adds_none (λ s B h w. none w.number w.of)))

pub loop-role-preserved : goal.loop-role-preserved
loop-role-preserved c = over_more c.loop-role.invariant c.in-Some.ensures.steps
    (λ x v. adds_then v c.put_steps.ensures (λ s B. witness_more x))

pub returns : goal.returns
returns c =
    adds_then c.with_marks-next.ensures (over_end c.loop-role.invariant c.in-None.ensures.steps.0
    (λ same v. adds_as (λ s B h. witness_same same) v))
    (steps_all _ _ _ c.requires)
