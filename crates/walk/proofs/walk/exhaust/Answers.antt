-- `exhaust`: sweep after sweep, and the last one, after which no individual has states to follow.
use Rattle.walk.proofs.EndLaws.{passed_none, passed_more, passed_end, room_less}
use Rattle.walk.proofs.walk.exhaust.Goals as goal

pub loop-init : goal.loop-init
loop-init c = passed_none _ _ _ _ c.requires.ready c.requires.long

pub loop-smaller : goal.loop-smaller
loop-smaller c = room_less _ _ _ _ _ _ c.sweep.ensures c.loop-test.true

pub loop-preserved : goal.loop-preserved
loop-preserved c = passed_more _ _ _ _ _ _ _ _ _ c.loop.invariant c.sweep.ensures

pub returns : goal.returns
returns c = passed_end _ _ _ _ _ _ _ _ _ c.loop.invariant c.sweep.ensures c.loop-test.false
