-- `put_each`: none, one state more, all.
use Rattle.laws.specs.Loops.{witness_more, witness_same}
use Rattle.sets.proofs.Gathering.{over_start, over_more, over_end}
use Rattle.walk.proofs.CoReachableLaws.{adds_none, adds_as, adds_then}
use Rattle.walk.proofs.coreachable.put_each.Goals as goal

pub loop-s-init : goal.loop-s-init
loop-s-init c =
    rw (c.into_iter-s-iterator.ensures.into_iter_gives, c.iter-s-items.ensures)
    (over_start (λ none. adds_none (λ s B h w. none w.number w.of)))

pub loop-s-preserved : goal.loop-s-preserved
loop-s-preserved c = over_more c.loop-s.invariant c.in-Some.ensures.steps (λ x v. adds_then v c.put_at.ensures (λ s B. witness_more x))

pub returns : goal.returns
returns c = over_end c.loop-s.invariant c.in-None.ensures.steps.0 (λ same v. adds_as (λ s B h. witness_same same) v)
