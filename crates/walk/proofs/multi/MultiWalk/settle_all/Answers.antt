-- `settle_all`: one individual more.
use Rattle.walk.proofs.JumpLaws.{sets_none, sets_more, sets_end}
use Rattle.walk.proofs.multi.MultiWalk.settle_all.Goals as goal

pub loop-b-init : goal.loop-b-init
loop-b-init c = sets_none _ _ _ c.requires.ready

pub settle_at-requires-clause-ready : goal.settle_at-requires-clause-ready
settle_at-requires-clause-ready c = c.loop-b.invariant.ready

pub settle_at-requires-clause-part : goal.settle_at-requires-clause-part
settle_at-requires-clause-part c = rw c.loop-b.invariant.all c.requires.part

pub loop-b-preserved : goal.loop-b-preserved
loop-b-preserved c = sets_more _ _ _ _ _ _ c.loop-b.invariant c.settle_at.ensures

pub returns : goal.returns
returns c = sets_end _ _ _ _ _ c.loop-b.invariant c.loop-b-test.false c.loop-b.auto.b-end
