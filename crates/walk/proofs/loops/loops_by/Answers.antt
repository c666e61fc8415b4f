-- `loops_by`: no set is made, then one more at each turn.
use Rattle.walk.proofs.LoopLaws.{row_none, row_more, row_all}
use Rattle.walk.proofs.loops.loops_by.Goals as goal

pub loop-s-init : goal.loop-s-init
loop-s-init c = row_none _ _

pub loop-s-preserved : goal.loop-s-preserved
loop-s-preserved c = row_more _ _ _ _ _ c.loop-s.invariant c.loop-s-test.true c.loops_from.ensures

pub returns : goal.returns
returns c = row_all _ _ _ _ c.loop-s.invariant c.loop-s-test.false
