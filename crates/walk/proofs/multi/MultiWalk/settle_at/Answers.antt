-- `settle_at`: one state more, and at the end all.
use Rattle.walk.proofs.JumpLaws.{settling_none, settling_more, settling_end}
use Rattle.walk.proofs.multi.MultiWalk.settle_at.Goals as goal

pub loop-t-init : goal.loop-t-init
loop-t-init c = rw (c.into_iter-t-iterator.ensures.into_iter_gives, c.iter-t-items.ensures) (settling_none _ _ _ _ c.requires.ready)

pub settle-requires-clause-ready : goal.settle-requires-clause-ready
settle-requires-clause-ready c = c.loop-t.invariant.settled.ready

pub settle-requires-clause-part : goal.settle-requires-clause-part
settle-requires-clause-part c = rw c.loop-t.invariant.settled.all c.requires.part

pub loop-t-preserved : goal.loop-t-preserved
loop-t-preserved c = settling_more _ _ _ 32 _ _ _ _ _ _ c.loop-t.invariant c.in-Some.ensures.steps c.settle.ensures

pub returns : goal.returns
returns c = settling_end _ _ _ _ _ _ c.loop-t.invariant c.in-None.ensures.steps.0
