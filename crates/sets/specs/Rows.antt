-- How rows of sets stand for a relation between numbers: i is related to j where the set in row i
-- has j. Past the last row no number is related to any.
use Rattle.std.specs.Prelude.{ℕ, ◌≡◌, ◌^◌, ◌<◌, ◌⊎◌, ◌↔◌, IsTrue, Bool, List, length, slice_index_or}
use Rattle.sets.specs.Bits.{has, concept_width, role_width}
use Rattle.sets.specs.declared.concepts.ConceptSet.{ConceptSet}
use Rattle.sets.specs.declared.roles.RoleSet.{RoleSet}
use Rattle.sets.specs.declared.states.StateSet.{StateSet}

abbrev pub no_concepts : ConceptSet
no_concepts = record { 0 = 0 }

abbrev pub no_roles : RoleSet
no_roles = record { 0 = 0 }

abbrev pub no_states : StateSet
no_states = record { 0 = 0 }

abbrev pub concept_marks : List ConceptSet → ℕ → ℕ → Bool
concept_marks rows i j = has (slice_index_or rows i no_concepts).0 j

abbrev pub role_marks : List RoleSet → ℕ → ℕ → Bool
role_marks rows i j = has (slice_index_or rows i no_roles).0 j

abbrev pub state_marks : List StateSet → ℕ → ℕ → Bool
state_marks rows i j = has (slice_index_or rows i no_states).0 j

-- r relates what m does and the pairs of E: of the numbers below h those below w
pub record Adds (h w : ℕ) (m : ℕ → ℕ → Bool) (E : ℕ → ℕ → Type 0) (r : ℕ → ℕ → Bool) : Type 0
  where
    pub at : (i j : ℕ) → i < h → j < w → IsTrue (r i j) ↔ (IsTrue (m i j) ⊎ E i j)

-- so many rows, each a number below 2 ^ w: what the type of an array of sets says
module _ {A : Type 0} (number : A → ℕ) (none : A) where
  pub record Fits (h w : ℕ) (rows : List A) : Type 0 where
    pub long : length rows ≡ h
    pub small : (i : ℕ) → i < h → number (slice_index_or rows i none) < 2 ^ w

abbrev pub ConceptRows : ℕ → List ConceptSet → Type 0
ConceptRows h = Fits (λ (s : ConceptSet). s.0) no_concepts h concept_width

abbrev pub RoleRows : ℕ → List RoleSet → Type 0
RoleRows h = Fits (λ (s : RoleSet). s.0) no_roles h role_width
