-- The loops of individuals, by the closed sheet.
use Rattle.std.specs.Prelude.{ℕ, List, ◌≡◌, ◌<◌, ◌↔◌, length}
use Rattle.kinds.specs.Kinds.{most_individuals, most_states}
use Rattle.sets.specs.Bits.{Has, concept_width}
use Rattle.sets.specs.declared.states.StateSet.{StateSet}
use Rattle.sets.specs.declared.concepts.ConceptSet.{ConceptSet}
use Rattle.sets.specs.Relations.{concepts_at, pair, states_at, relation_at}

-- the sheet marks (s, t, B) for some B of the concepts
pub record LoopTo (sheet : List ConceptSet) (concepts s t : ℕ) : Type 0 where
  pub state : t < most_states
  pub concept : ℕ
  pub low : concept < concept_width
  pub marked : Has (concepts_at sheet (pair s t)) concept
  pub has : Has concepts concept

-- the loops of an individual that has the concepts, from each state
pub record IsLoopRow (sheet : List ConceptSet) (concepts : ℕ) (row : List StateSet) : Type 0 where
  pub long : length row ≡ most_states
  pub at : (s t : ℕ) → s < most_states → Has (states_at row s) t ↔ LoopTo sheet concepts s t

-- the loops of each individual
pub record AreLoops (individuals sheet : List ConceptSet) (rows : List (List StateSet)) : Type 0
  where
    pub long : length rows ≡ most_individuals
    pub each : (a : ℕ) → a < most_individuals → length (relation_at rows a) ≡ most_states
    pub at : (a s t : ℕ) → a < most_individuals → s < most_states
        → Has (states_at (relation_at rows a) s) t ↔ LoopTo sheet (concepts_at individuals a) s t
