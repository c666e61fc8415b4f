-- What the call that gives the list of a closed sheet gives (docs/RULES.md, sections 10 and 12).
use Rattle.std.specs.Prelude.{◌≡◌, ◌≢◌, List, ℕ, ◌*◌, ◌≤◌, [], ◌∷◌, map, length}
use Rattle.std.specs.List.{flat_map}
use Rattle.kinds.specs.declared.State.{State}
use Rattle.kinds.specs.declared.Concept.{Concept}
use Rattle.kinds.specs.declared.Counts.{Counts}
use Rattle.kinds.specs.Kinds.{number_of, CountsFit}
use Rattle.laws.specs.First.{FirstOf, ◌else◌}
use Rattle.theory.specs.Listing.{Listing}
use Rattle.meaning.specs.Layout.{place_count}
use Rattle.meaning.specs.Lent.{Tables, collection, ShapesOk, NumbersFit}
use Rattle.meaning.specs.Listing.{numbered_lite}
use Rattle.meaning.specs.Model.{Contradiction}
use Rattle.sheet.specs.declared.round_marks.RoundMarks.{RoundMarks}
use Rattle.lampsaffron.specs.Front.{IsFront}

-- an entry of a list: a round, and a mark
abbrev pub Entry : Type 0
Entry = ℕ × State × State × Concept

-- the entries of a round
abbrev pub entries_in : ℕ → RoundMarks → List Entry
entries_in round marks = map (λ x. (round, x.0, x.1, x.2)) marks

-- an entry as four numbers: the round, the numbers of two states, and that of a concept; entries in
-- a row
abbrev pub entry_width : ℕ
entry_width = 4

abbrev pub entry_numbers : Entry → List ℕ
entry_numbers e = e.0 ∷ e.1.0 ∷ e.2.0 ∷ number_of e.3 ∷ []

abbrev pub list_numbers : List Entry → List ℕ
list_numbers = flat_map entry_numbers

-- a list has no more entries than there are marks
abbrev pub most_entries : ℕ
most_entries = place_count

-- what is left of what was lent: the row for the list, and how many entries it has
pub record Left : Type 0 where
  pub list : List ℕ
  pub entries : ℕ

abbrev pub left : List ℕ → ℕ → Left
left list entries = record { list = list; entries = entries }

module _ (c : Counts) (t : Tables) where
  -- the number given: of the first of these that fails; a row that has no place for the longest list
  -- is 5
  abbrev pub ListingNumber : ℕ → ℕ → Type 0
  ListingNumber room =
      FirstOf (CountsFit c else 4
      ∷ (entry_width * most_entries ≤ room) else 5
      ∷ ShapesOk t else 5
      ∷ NumbersFit c t else 6
      ∷ (Contradiction (collection c t) → ⊥) else 2 ∷ [])
      (λ number. number ≡ 0)

  -- the list of the closed sheet stands at the front of a row, of so many numbers
  abbrev pub PutsList : ℕ → List ℕ → List ℕ → Type 0
  PutsList count old new =
      (list : List Entry) × Listing (numbered_lite (collection c t)) list
      × IsFront (list_numbers list) count old new

  -- and of so many entries
  abbrev pub TellsList : ℕ → List ℕ → List ℕ → Type 0
  TellsList entries = PutsList (entry_width * entries)

  -- all that the call gives and leaves
  pub record TellsListing (old : Left) (number : ℕ) (new : Left) : Type 0 where
    pub number_is : ListingNumber (length old.list) number
    pub told : number ≡ 0 → TellsList new.entries old.list new.list
    pub kept : number ≢ 0 → new ≡ old
