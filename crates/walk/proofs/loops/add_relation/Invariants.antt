-- `add_relation`: the sets of the states below s are joined.
use Rattle.laws.specs.Fill.{Filling}
use Rattle.kinds.specs.Kinds.{most_states}
use Rattle.sets.specs.Bits.{IsUnion}
use Rattle.sets.specs.Rows.{no_states}
use Rattle.sets.specs.Relations.{states_at}
use Rattle.sets.specs.declared.states.StateSet.{StateSet}
use Rattle.walk.proofs.loops.add_relation.Given as goal

abbrev pub invariant-loop-s : goal.invariant-loop-s
invariant-loop-s l = Filling (λ s (x : StateSet). IsUnion (states_at l.fn.relation s)
    (states_at l.more s) x.0) no_states most_states l.fn.relation l.relation l.s
