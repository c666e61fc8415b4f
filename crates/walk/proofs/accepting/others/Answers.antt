-- `others`: each turn tests one state.
use Rattle.std.proofs.Common.{arith}
use Rattle.sets.specs.Bits.{state_width}
use Rattle.sets.proofs.Gathering.{gathered_more, gathered_end}
use Rattle.walk.specs.Accepting.{IsOpen}
use Rattle.walk.proofs.AcceptingLaws.{open_test}
use Rattle.walk.proofs.accepting.others.Goals as goal

pub loop-s-preserved : goal.loop-s-preserved
loop-s-preserved c =
    gathered_more (IsOpen c.args.set.0) state_width _ _ _ _ (omega arith) c.loop-s.invariant c.insert_if.ensures
    (open_test _ _ _ c.loop-s-test.true c.contains.ensures)

pub returns : goal.returns
returns c = gathered_end (IsOpen c.args.set.0) _ _ (λ s w. let l = w.state in omega arith) c.loop-s.invariant
