-- The accepting states of individuals: a path may end in them there, or leads on to an end below.
use Rattle.std.specs.Prelude.{ℕ, List, ◌≡◌, ◌↔◌, ◌⊎◌, ◌^◌, ◌<◌, length}
use Rattle.kinds.specs.Kinds.{most_individuals, most_states}
use Rattle.sets.specs.Bits.{Has, IsEmpty, Meets, concept_width}
use Rattle.sets.specs.Relations.{states_at, concepts_at}
use Rattle.sets.specs.declared.states.StateSet.{StateSet}
use Rattle.sets.specs.declared.concepts.ConceptSet.{ConceptSet}
use Rattle.walk.specs.declared.coreachable.PathsBelow.{PathsBelow}
use Rattle.walk.specs.CoReachable.{LeadsOn}

-- s is final, or the way leads on from it for some B of the concepts
pub record Accepts (paths : PathsBelow) (concepts s : ℕ) : Type 0 where
  pub state : s < most_states
  pub out : Has paths.finals.0 s
      ⊎ ((B : ℕ) × (B < concept_width) × Has concepts B × LeadsOn paths s B)

-- the accepting states of each individual
pub record AreAccepting (individuals : List ConceptSet) (paths : PathsBelow)
    (rows : List StateSet) : Type 0 where
  pub long : length rows ≡ most_individuals
  pub at : (a s : ℕ) → a < most_individuals
      → Has (states_at rows a) s ↔ Accepts paths (concepts_at individuals a) s

-- ---- by rows that say from where a step down leads on

abbrev pub AcceptsBy : ℕ → List ConceptSet → ℕ → ℕ → Type 0
AcceptsBy finals rows concepts s = Has finals s ⊎ Meets (concepts_at rows s) concepts

pub record AcceptsNumber (finals : ℕ) (rows : List ConceptSet) (concepts s : ℕ) : Type 0 where
  pub state : s < most_states
  pub by : Has finals s
      ⊎ ((B : ℕ) × (B < concept_width) × Has (concepts_at rows s) B × Has concepts B)

-- a state that is not in the set
pub record IsOpen (set s : ℕ) : Type 0 where
  pub state : s < most_states
  pub out : Has set s → ⊥

-- r is the least set where there is no concept; else it has what is shared, and the open states
-- from which the way leads on by some concept
abbrev pub IsAcceptingOf : ℕ → ℕ → List ConceptSet → ℕ → ℕ → Type 0
IsAcceptingOf least shared rows concepts r =
    (IsEmpty concepts × (r ≡ least))
    ⊎ ((IsEmpty concepts → ⊥) × (concepts < 2 ^ concept_width)
    × ((s : ℕ) → Has r s
    ↔ (Has shared s ⊎ (IsOpen shared s × Meets (concepts_at rows s) concepts))))
