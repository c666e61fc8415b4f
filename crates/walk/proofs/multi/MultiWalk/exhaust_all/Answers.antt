-- `exhaust_all`: the last sweeps are over every state.
use Rattle.walk.proofs.SweepLaws.{exhausts_all}
use Rattle.walk.proofs.multi.MultiWalk.exhaust_all.Goals as goal

pub returns : goal.returns
returns c = exhausts_all _ _ _ _ c.loop-i.invariant c.exhaust-2.ensures
