-- `transpose_all`: the relations of the signed roles below r are made.
use Rattle.std.specs.Prelude.{List, []}
use Rattle.laws.specs.Fill.{Filling}
use Rattle.kinds.specs.Kinds.{flip}
use Rattle.sets.specs.Bits.{role_width}
use Rattle.sets.specs.declared.states.StateSet.{StateSet}
use Rattle.sets.specs.Relations.{relation_at}
use Rattle.walk.specs.Transposed.{IsTransposed}
use Rattle.walk.proofs.directed.transpose_all.Given as goal

abbrev pub invariant-loop-r : goal.invariant-loop-r
invariant-loop-r l = Filling (λ R (x : List StateSet). IsTransposed (relation_at l.transitions (flip R)) x)
    [] role_width l.initial.out l.out l.r
