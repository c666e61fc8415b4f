-- An area as it was stored while there were at most 16 states, and how it is moved to the places of
-- today and back (docs/RULES.md, section 6; section 10, "Areas moved").
use Rattle.std.specs.Prelude.{◌≡◌, ◌↔◌, ◌⊎◌, List, ℕ, ◌^◌, ◌≤◌, ◌<◌, length, slice_index}
use Rattle.kinds.specs.declared.State.{State}
use Rattle.kinds.specs.declared.Concept.{Concept}
use Rattle.kinds.specs.declared.Counts.{Counts}
use Rattle.kinds.specs.Kinds.{most_names, most_roles, most_individuals, most_states, state}
use Rattle.kinds.specs.Kinds.{ConceptDeclared}
use Rattle.meaning.specs.Collection.{Collection, WellFormed}
use Rattle.meaning.specs.Layout.{place_by, place, area_length_by, byte_bits, bit_in, LaysBy, Lays}
use Rattle.meaning.specs.LawsOfSheet.{Marked}

-- the states that such an area has room for
abbrev pub former_states : ℕ
former_states = 16

-- its bytes: 4,096
abbrev pub former_length : ℕ
former_length = area_length_by former_states

-- the place of the mark (s, t, B) there: s × 2,048 + t × 128 + B
abbrev pub former_place : State → State → Concept → ℕ
former_place = place_by former_states

-- such an area holds the sheet f
abbrev pub FormerLays : (State → State → Concept → Type 0) → List ℕ → Type 0
FormerLays = LaysBy former_states

-- so many bytes as an area for n states has
pub record IsArea (n : ℕ) (area : List ℕ) : Type 0 where
  pub long : length area ≡ area_length_by n
  pub bytes : (i : ℕ) → slice_index area i < 2 ^ byte_bits

-- the most that may be declared
abbrev pub most_counts : Counts
most_counts = record {
  names = most_names;
  roles = most_roles;
  individuals = most_individuals;
  states = most_states;
  start = state 0;
}

-- a mark that has a place in an area for n states
pub record Placed (n : ℕ) (s t : State) (B : Concept) : Type 0 where
  pub from : s.0 < n
  pub to : t.0 < n
  pub of : ConceptDeclared most_counts B

-- and stands in the area
pub record StandsIn (n : ℕ) (area : List ℕ) (s t : State) (B : Concept) : Type 0 where
  pub placed : Placed n s t B
  pub one : bit_in area (place_by n s t B) ≡ 1

-- an area of today is a stored one that was moved: 1 at the place of each mark that stands in the
-- stored one, and 0 everywhere else
pub record IsMoved (stored area : List ℕ) : Type 0 where
  pub whole : IsArea former_states stored
  pub holds : Lays (StandsIn former_states stored) area

-- a state above 15 is marked in an area of today
pub record MarksAbove (area : List ℕ) : Type 0 where
  pub s : State
  pub t : State
  pub B : Concept
  pub stands : StandsIn most_states area s t B
  pub above : (former_states ≤ s.0) ⊎ (former_states ≤ t.0)

-- ---- laws

-- to each stored area there is one moved area, which has at the place of each mark what stands in
-- the stored one
abbrev pub MovedThere : Type 0
MovedThere = (stored : List ℕ) → IsArea former_states stored
    → (area : List ℕ) × IsMoved stored area

abbrev pub MovedOnce : Type 0
MovedOnce = (stored x y : List ℕ) → IsMoved stored x → IsMoved stored y → x ≡ y

abbrev pub MovedSame : Type 0
MovedSame = (stored area : List ℕ) → IsMoved stored area
    → (s t : State) (B : Concept) → Placed former_states s t B
    → bit_in area (place s t B) ≡ bit_in stored (former_place s t B)

-- and moved back it is as it was: 1 at the former place of each mark that stands in the moved one,
-- and 0 everywhere else
abbrev pub BackSays : Type 0
BackSays = (stored area : List ℕ) → IsMoved stored area
    → FormerLays (StandsIn most_states area) stored

abbrev pub BackOnce : Type 0
BackOnce = (x y area : List ℕ) → IsMoved x area → IsMoved y area → x ≡ y

-- an area of today is a moved one exactly when no state above 15 is marked in it
abbrev pub MovedExactly : Type 0
MovedExactly = (area : List ℕ) → IsArea most_states area
    → ((stored : List ℕ) × IsMoved stored area) ↔ (MarksAbove area → ⊥)

module _ (f : State → State → Concept → Type 0) where
  -- a sheet of states below 16, any
  abbrev pub IsFormer : Type 0
  IsFormer = (s t : State) (B : Concept) → f s t B → Placed former_states s t B

  -- a stored area that holds it is moved to the area of today that holds it, and to no other, and
  -- such an area is moved back to the stored one
  abbrev pub HeldIsMoved : Type 0
  HeldIsMoved = IsFormer → (stored area : List ℕ) → FormerLays f stored
      → IsMoved stored area ↔ Lays f area

  abbrev pub HeldIsMovedBack : Type 0
  HeldIsMovedBack = IsFormer → (stored area : List ℕ) → Lays f area
      → IsMoved stored area ↔ FormerLays f stored

-- so it is with the sheet of a collection of at most 16 states after every round: a stored area
-- holds it, which is moved to the area of today that holds it, and back
abbrev pub FormerThere : Type 0
FormerThere = (𝓒 : Collection) → WellFormed 𝓒 → 𝓒.counts.states ≤ former_states → (n : ℕ)
    → (stored : List ℕ) × FormerLays (Marked 𝓒 n) stored

abbrev pub MovedAfterRounds : Type 0
MovedAfterRounds = (𝓒 : Collection) → WellFormed 𝓒 → 𝓒.counts.states ≤ former_states
    → (n : ℕ) (stored area : List ℕ) → FormerLays (Marked 𝓒 n) stored
    → IsMoved stored area ↔ Lays (Marked 𝓒 n) area

abbrev pub BackAfterRounds : Type 0
BackAfterRounds = (𝓒 : Collection) → WellFormed 𝓒 → 𝓒.counts.states ≤ former_states
    → (n : ℕ) (stored area : List ℕ) → Lays (Marked 𝓒 n) area
    → IsMoved stored area ↔ FormerLays (Marked 𝓒 n) stored
