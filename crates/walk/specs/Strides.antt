-- The individuals' walk by the tables that it is lent, whatever these hold.
use Rattle.std.specs.Prelude.{◌≡◌, ◌↔◌, List, ℕ, ◌<◌, length}
use Rattle.kinds.specs.declared.Individual.{Individual}
use Rattle.kinds.specs.declared.State.{State}
use Rattle.kinds.specs.Kinds.{most_individuals, most_states}
use Rattle.sets.specs.Bits.{Has}
use Rattle.sets.specs.declared.states.StateSet.{StateSet}
use Rattle.edges.specs.declared.FactEdge.{FactEdge}
use Rattle.edges.specs.Edges.{IsFactEdge}
use Rattle.theory.specs.Run.{Run}
use Rattle.sets.specs.Relations.{states_at, relation_at}

module _ (loops transitions : List (List StateSet)) (facts : List ℕ) where
  -- one stride: along an edge that a fact makes, by the transitions of its role, or by a loop
  pub data TableStride : ℕ → ℕ → ℕ → ℕ → Type 0 where
    along : {a s t : ℕ} (edge : FactEdge) → IsFactEdge facts a edge
        → Has (states_at (relation_at transitions edge.role.0) s) t → TableStride a s edge.to.0 t
    loop : {a s t : ℕ} → a < most_individuals → Has (states_at (relation_at loops a) s) t
        → TableStride a s a t

  -- strides lead from the first individual in the start state to b in t
  pub record Reaches (first start b t : ℕ) : Type 0 where
    pub individual : first < most_individuals
    pub state : start < most_states
    pub strides : Run TableStride first start b t

  -- the states in which each individual is reached
  pub record Walked (first : Individual) (start : State) (r : List StateSet) : Type 0 where
    pub long : length r ≡ most_individuals
    pub at : (b t : ℕ) → Has (states_at r b) t ↔ Reaches first.0 start.0 b t
