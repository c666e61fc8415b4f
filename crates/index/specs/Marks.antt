-- The marks of the rounds of a preparation (docs/RULES.md, section 6), as a listener is told them, and
-- how many they are.
use Rattle.std.specs.Prelude.{◌≡◌, List, [], ℕ, ◌+◌, ◌≤◌, length, min, sum}
use Rattle.meaning.specs.Collection.{Collection}
use Rattle.meaning.specs.Demands.{most_rounds}
use Rattle.meaning.specs.Layout.{Standing}
use Rattle.meaning.specs.LawsOfMarks.{first_marks}
use Rattle.meaning.specs.Listing.{numbered_lite}
use Rattle.meaning.specs.Lite.{lite}
use Rattle.meaning.specs.Model.{Contradiction}
use Rattle.theory.specs.Listing.{MarksByRound, Listing, entries_of, counts_of}
use Rattle.theory.specs.Marks.{RoundCounts}
use Rattle.theory.specs.Sheet.{Needed}
use Rattle.sheet.specs.declared.round_marks.RoundMarks.{RoundMarks}
use Rattle.index.specs.Preparation.{Preparation, collection_in, HasSheet, RoundsNeeded, HoldsSheet}

-- the marks that are told: where there is a sheet, those that first stand in each of rounds 0 to the
-- lesser of those needed and those allowed, and else none
pub record MarksTold (p : Preparation) (rounds : List RoundMarks) : Type 0 where
  pub marks : HasSheet p → (n : ℕ) → RoundsNeeded p n
      → MarksByRound (numbered_lite (collection_in p)) (min n p.allowance) rounds
  pub none : (HasSheet p → ⊥) → rounds ≡ []

-- how many marks the rounds add that are told: where there is a sheet, rounds 1 to the lesser of
-- those needed and those allowed, and else none
pub record CountsTold (p : Preparation) (counts : List ℕ) : Type 0 where
  pub rounds : HasSheet p → (n : ℕ) → RoundsNeeded p n
      → RoundCounts (lite (collection_in p)) (min n p.allowance) counts
  pub none : (HasSheet p → ⊥) → counts ≡ []

-- they are as many as the marks of all rounds but round 0
abbrev pub CountsOfMarks : Preparation → Type 0
CountsOfMarks p =
    (rounds : List RoundMarks) → MarksTold p rounds → CountsTold p (counts_of rounds)

-- these counts and states × concepts make the number of marks standing in an area that holds the
-- sheet
abbrev pub MakesSheet : Preparation → Type 0
MakesSheet p =
    (counts area : List ℕ) → CountsTold p counts → HasSheet p
    → (n : ℕ) → RoundsNeeded p n → HoldsSheet p (min n p.allowance) area
    → Standing area (sum counts + first_marks p.counts)

-- where there is a sheet, these counts and states × concepts make the marks that stand in an area
abbrev pub MarksStand : Preparation → List ℕ → Type 0
MarksStand p area =
    HasSheet p → (counts : List ℕ) → CountsTold p counts
    → Standing area (sum counts + first_marks p.counts)

-- there are no more of them than concepts × states × (states − 1), nor than rounds are allowed
abbrev pub ToldAtMost : Preparation → Type 0
ToldAtMost p =
    (counts : List ℕ) → CountsTold p counts
    → length counts ≤ min (most_rounds p.counts) p.allowance

-- the marks of the closed sheet, as they are told: those that first stand in each of rounds 0 to the
-- last that is needed; and in a contradiction none
pub record SheetTold (𝓒 : Collection) (rounds : List RoundMarks) : Type 0 where
  pub marks : (Contradiction 𝓒 → ⊥) → (n : ℕ) → Needed (lite 𝓒) n
      → MarksByRound (numbered_lite 𝓒) n rounds
  pub none : Contradiction 𝓒 → rounds ≡ []

-- they are the list of the sheet
abbrev pub SheetIsListed : Collection → Type 0
SheetIsListed 𝓒 =
    (rounds : List RoundMarks) → SheetTold 𝓒 rounds → (Contradiction 𝓒 → ⊥)
    → Listing (numbered_lite 𝓒) (entries_of (numbered_lite 𝓒) rounds)
