-- `Loops::fill`: no row is made, then one more at each turn.
use Rattle.std.proofs.Common.{rules}
use Rattle.walk.proofs.LoopLaws.{loops_none, loops_more, loops_all}
use Rattle.walk.proofs.LoopPartLaws.{row_is}
use Rattle.walk.proofs.loops.Loops.fill.Goals as goal

pub loop-a-init : goal.loop-a-init
loop-a-init c = loops_none _ _ _ (search rules)

pub loop-a-preserved : goal.loop-a-preserved
loop-a-preserved c =
    loops_more _ _ _ _ _ c.loop-a.invariant c.loop-a-test.true
    (row_is _ _ _ _ _ _ _ c.shared_concepts.ensures c.loops_by-shared.ensures c.put_pairs.ensures c.loop-a-test.true
    c.loops_of.ensures)

pub returns : goal.returns
returns c = loops_all _ _ _ _ c.loop-a.invariant c.loop-a-test.false
