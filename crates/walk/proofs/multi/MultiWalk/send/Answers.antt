-- `send`: one state more is marked, and at the end all.
use Rattle.walk.proofs.SendLaws.{sending_none, sending_more, sending_end}
use Rattle.walk.proofs.multi.MultiWalk.send.Goals as goal

pub loop-t-init : goal.loop-t-init
loop-t-init c =
    rw (c.into_iter-t-iterator.ensures.into_iter_gives, c.iter-t-items.ensures)
    (sending_none _ _ _ _ _ _ c.requires.ready c.minus-open.ensures)

pub mark-requires-clause-ready : goal.mark-requires-clause-ready
mark-requires-clause-ready c = c.loop-t.invariant.grown.ready

pub mark-requires-clause-part : goal.mark-requires-clause-part
mark-requires-clause-part c = rw c.loop-t.invariant.grown.all c.requires.part

pub loop-t-preserved : goal.loop-t-preserved
loop-t-preserved c = sending_more _ _ _ _ 32 _ _ _ _ _ _ c.loop-t.invariant c.in-Some.ensures.steps c.mark.ensures

pub returns : goal.returns
returns c = sending_end _ _ _ _ _ _ c.requires.ready c.requires.part c.loop-t.invariant c.in-None.ensures.steps.0
