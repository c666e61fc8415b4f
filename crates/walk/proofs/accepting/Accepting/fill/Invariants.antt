-- `Accepting::fill`: the accepting states of the individuals below a are made.
use Rattle.laws.specs.Fill.{Filling}
use Rattle.kinds.specs.Kinds.{most_individuals}
use Rattle.sets.specs.Bits.{IsSetOf}
use Rattle.sets.specs.Rows.{no_states}
use Rattle.sets.specs.Relations.{concepts_at}
use Rattle.sets.specs.declared.states.StateSet.{StateSet}
use Rattle.walk.specs.Accepting.{AcceptsNumber}
use Rattle.walk.proofs.accepting.Accepting.fill.Given as goal

abbrev pub invariant-loop-a : goal.invariant-loop-a
invariant-loop-a l =
    Filling (λ a (x : StateSet). IsSetOf (AcceptsNumber l.paths.finals.0 l.onward
    (concepts_at l.individuals a)) x.0) no_states most_individuals l.initial.self.rows
    l.self.rows l.a
