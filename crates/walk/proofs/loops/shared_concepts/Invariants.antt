-- `shared_concepts`: the individuals that are past, and have any concept, have all of them.
use Rattle.std.specs.Prelude.{ℕ, ◌<◌}
use Rattle.sets.specs.Bits.{IsEmpty}
use Rattle.sets.specs.Relations.{concepts_at}
use Rattle.walk.specs.LoopParts.{Within}
use Rattle.walk.proofs.loops.shared_concepts.Given as goal

abbrev pub invariant-loop-concepts : goal.invariant-loop-concepts
invariant-loop-concepts l = (a : ℕ) → a < l.concepts-index → (IsEmpty (concepts_at l.individuals a) → ⊥)
    → Within l.out.0 (concepts_at l.individuals a)
