-- `accepting_beside`: the states taken are in where the way leads on from them.
use Rattle.std.specs.Prelude.{◌⊎◌}
use Rattle.laws.specs.Loops.{Witness}
use Rattle.sets.specs.Bits.{Has, IsSetOf}
use Rattle.sets.proofs.Gathering.{Over}
use Rattle.walk.proofs.AcceptingLaws.{OpenBy}
use Rattle.walk.proofs.accepting.accepting_beside.Given as goal

abbrev pub invariant-loop-s : goal.invariant-loop-s
invariant-loop-s l =
    Over l.fn.left.0 l.s-iterator.rest.0 (λ D. IsSetOf (λ t. Has l.fn.shared.0 t ⊎ Witness D (OpenBy l.onward l.concepts.0 t)) l.out.0)
