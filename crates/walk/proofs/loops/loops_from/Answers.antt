-- `loops_from`: each turn puts in one state to which a loop leads.
use Rattle.std.proofs.Common.{arith, rules}
use Rattle.sets.specs.Bits.{state_width}
use Rattle.sets.proofs.Gathering.{gathered_more, gathered_end}
use Rattle.walk.specs.Loops.{LoopTo}
use Rattle.walk.proofs.LoopLaws.{loop_test}
use Rattle.walk.proofs.loops.loops_from.Goals as goal

pub loop-t-preserved : goal.loop-t-preserved
loop-t-preserved c =
    gathered_more (LoopTo c.args.sheet.now c.args.concepts.0 c.args.s) state_width _ _ _ _
    (omega arith) c.loop-t.invariant c.insert_if.ensures
    (loop_test _ _ _ _ _ (search rules) c.loop-t-test.true c.intersects.ensures)

pub returns : goal.returns
returns c = gathered_end (LoopTo c.args.sheet.now c.args.concepts.0 c.args.s) _ _ (λ t w. let l = w.state in omega arith) c.loop-t.invariant
