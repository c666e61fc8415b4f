-- What the calls that move a stored area of 16 states to the places of today, and back, give
-- (docs/RULES.md, section 10, "Areas moved"), and its laws.
use Rattle.std.specs.Prelude.{◌≡◌, ◌≢◌, List, ℕ, ◌≤◌, [], ◌∷◌, length}
use Rattle.laws.specs.First.{FirstOf, ◌else◌}
use Rattle.meaning.specs.Collection.{Collection, WellFormed}
use Rattle.meaning.specs.Layout.{area_length, Lays}
use Rattle.meaning.specs.LawsOfSheet.{Marked}
use Rattle.meaning.specs.Former.{former_states, former_length, FormerLays, IsMoved, MarksAbove}
use Rattle.sheet.specs.Former.{AreLong}
use Rattle.sheet.specs.declared.former.Unmoved.{Unmoved}
use Rattle.sheet.specs.declared.former.Unmoved.TheVariants as unmoved

-- why an area is not moved
abbrev pub number_of : Unmoved → ℕ
number_of unmoved.BadLength = 5
number_of unmoved.StateAbove15 = 6

module _ (stored area : List ℕ) where
  -- the number given where the stored area is moved: 5 where one of the two has another length,
  -- and else 0
  abbrev pub MovesNumber : ℕ → Type 0
  MovesNumber = FirstOf (AreLong stored area else 5 ∷ []) (λ number. number ≡ 0)

  -- and where the other is moved back: then also 6, where a state above 15 is marked in it
  abbrev pub BackNumber : ℕ → Type 0
  BackNumber =
      FirstOf (AreLong stored area else 5 ∷ (MarksAbove area → ⊥) else 6 ∷ [])
      (λ number. number ≡ 0)

-- all that moving a stored area gives and leaves
pub record TellsMoved (stored old : List ℕ) (number : ℕ) (new : List ℕ) : Type 0 where
  pub number_is : MovesNumber stored old number
  pub moved : number ≡ 0 → IsMoved stored new
  pub kept : number ≢ 0 → new ≡ old

-- and moving an area back
pub record TellsBack (area old : List ℕ) (number : ℕ) (new : List ℕ) : Type 0 where
  pub number_is : BackNumber old area number
  pub moved : number ≡ 0 → IsMoved new area
  pub kept : number ≢ 0 → new ≡ old

-- ---- laws

-- a stored area that is moved, and moved back into a row of its length, is as it was
abbrev pub ThereAndBack : Type 0
ThereAndBack = (stored before area old new : List ℕ) (number : ℕ)
    → TellsMoved stored before 0 area → length old ≡ former_length
    → TellsBack area old number new → (number ≡ 0) × (new ≡ stored)

-- an area that is moved back, and moved again into a row of its length, is as it was
abbrev pub BackAndThere : Type 0
BackAndThere = (area before stored old new : List ℕ) (number : ℕ)
    → TellsBack area before 0 stored → length old ≡ area_length
    → TellsMoved stored old number new → (number ≡ 0) × (new ≡ area)

-- the area of a collection of at most 16 states after any round is moved to that of the same
-- collection after the same round
abbrev pub RoundsMoved : Type 0
RoundsMoved = (𝓒 : Collection) → WellFormed 𝓒 → 𝓒.counts.states ≤ former_states
    → (n : ℕ) (stored old new : List ℕ) (number : ℕ) → FormerLays (Marked 𝓒 n) stored
    → length old ≡ area_length → TellsMoved stored old number new
    → (number ≡ 0) × Lays (Marked 𝓒 n) new

-- and back
abbrev pub RoundsMovedBack : Type 0
RoundsMovedBack = (𝓒 : Collection) → WellFormed 𝓒 → 𝓒.counts.states ≤ former_states
    → (n : ℕ) (area old new : List ℕ) (number : ℕ) → Lays (Marked 𝓒 n) area
    → length old ≡ former_length → TellsBack area old number new
    → (number ≡ 0) × FormerLays (Marked 𝓒 n) new
