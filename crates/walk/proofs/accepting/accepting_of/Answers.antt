-- `accepting_of`: each turn puts in one accepting state.
use Rattle.std.proofs.Common.{arith, rules}
use Rattle.sets.specs.Bits.{state_width}
use Rattle.sets.proofs.Gathering.{gathered_more, gathered_end}
use Rattle.walk.specs.Accepting.{AcceptsNumber}
use Rattle.walk.proofs.AcceptingLaws.{accepts_test}
use Rattle.walk.proofs.accepting.accepting_of.Goals as goal

pub loop-s-preserved : goal.loop-s-preserved
loop-s-preserved c =
    gathered_more (AcceptsNumber c.args.paths.now.finals.0 c.args.onward.now c.args.concepts.0) state_width _ _ _ _
    (omega arith) c.loop-s.invariant c.insert_if.ensures
    (accepts_test _ _ _ _ _ (search rules) c.loop-s-test.true c.accepts.ensures)

pub returns : goal.returns
returns c = gathered_end (AcceptsNumber c.args.paths.now.finals.0 c.args.onward.now c.args.concepts.0) _ _
    (λ s w. let l = w.state in omega arith) c.loop-s.invariant
