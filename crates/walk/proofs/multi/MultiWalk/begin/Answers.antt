-- `begin`: no first is marked before the first one, and then one more.
use Rattle.walk.proofs.StartLaws.{begun_none, begun_more}
use Rattle.walk.proofs.multi.MultiWalk.begin.Goals as goal

pub loop-k-init : goal.loop-k-init
loop-k-init c = begun_none _ _ _ _ _ c.requires.none c.every_first-self.ensures

pub loop-k-preserved : goal.loop-k-preserved
loop-k-preserved c = begun_more _ _ _ _ _ _ c.loop-k.invariant c.put.ensures
