-- `ends_of_each`: the sets of the signed roles below r are made.
use Rattle.laws.specs.Fill.{Filling}
use Rattle.sets.specs.Bits.{role_width}
use Rattle.sets.specs.declared.states.StateSet.{StateSet}
use Rattle.sets.specs.Rows.{no_states}
use Rattle.walk.specs.Transposed.{EndsWithin}
use Rattle.walk.proofs.directed.ends_of_each.Given as goal

abbrev pub invariant-loop-r : goal.invariant-loop-r
invariant-loop-r l = Filling (λ R (x : StateSet). EndsWithin l.transitions R x.0) no_states role_width l.initial.out l.out l.r
