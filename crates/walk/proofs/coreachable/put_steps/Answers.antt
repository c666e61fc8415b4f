-- `put_steps`: the states from which the role leads to a live one get the concepts that have a child by it.
use Rattle.std.proofs.Common.{refl}
use Rattle.kinds.specs.Kinds.{inverse}
use Rattle.walk.proofs.CoReachableLaws.{adds_as, steps_put}
use Rattle.walk.proofs.coreachable.put_steps.Goals as goal

pub returns : goal.returns
unfolding inverse
returns c =
    let l = rw c.inverse.ensures at c.live_to-live.ensures in
    adds_as (steps_put _ _ _ _ _ _ c.requires.role refl l c.preimage-states.ensures) c.put_each.ensures
