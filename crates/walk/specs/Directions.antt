-- Strides as a walk takes them, in either direction.
use Rattle.std.specs.Prelude.{ℕ, List, ◌<◌}
use Rattle.kinds.specs.Kinds.{most_individuals}
use Rattle.sets.specs.Relations.{relation_at, Relates, Transposed}
use Rattle.sets.specs.declared.states.StateSet.{StateSet}
use Rattle.edges.specs.declared.FactEdge.{FactEdge}
use Rattle.edges.specs.Edges.{HasEdge}
use Rattle.walk.specs.declared.direction.Direction.{Direction}
use Rattle.walk.specs.declared.direction.Direction.TheVariants.{Forward, Backward}

-- where a relation leads, forward or backward
abbrev pub Led : Direction → List StateSet → ℕ → ℕ → Type 0
Led Forward relation = Relates relation
Led Backward relation = Transposed (Relates relation)

-- one stride of a walk, by loops in its direction and by the transitions that it is given
module _ (d : Direction) (loops transitions : List (List StateSet)) (facts : List ℕ)
    (roles : ℕ) where
  pub data Move : ℕ → ℕ → ℕ → ℕ → Type 0 where
    along : {a s t : ℕ} (edge : FactEdge) → HasEdge facts roles a edge
        → Relates (relation_at transitions edge.role.0) s t → Move a s edge.to.0 t
    loop : {a s t : ℕ} → a < most_individuals → Led d (relation_at loops a) s t → Move a s a t
