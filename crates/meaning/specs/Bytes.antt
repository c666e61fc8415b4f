-- One byte to a place, as an area was laid out before, and laws that it and an area of today, one
-- bit to a place, hold the same marks.
use Rattle.std.specs.Prelude.{◌≡◌, ◌↔◌, List, ℕ, ◌^◌, ◌≤◌, ◌<◌, length, slice_index}
use Rattle.kinds.specs.declared.State.{State}
use Rattle.kinds.specs.declared.Concept.{Concept}
use Rattle.meaning.specs.Collection.{Collection, WellFormed}
use Rattle.meaning.specs.Layout.{place_count, byte_bits, area_length, bit_in, IsPlaceOf, Lays}
use Rattle.meaning.specs.LawsOfSheet.{Marked}

-- the bytes hold the sheet f: 1 at the place of each mark, and 0 at every other place
pub record LaysBytes (f : State → State → Concept → Type 0) (wide : List ℕ) : Type 0 where
  pub long : length wide ≡ place_count
  pub small : (p : ℕ) → slice_index wide p ≤ 1
  pub marks : (p : ℕ) → (slice_index wide p ≡ 1) ↔ IsPlaceOf f p

-- the fact about places: byte p of the one is bit p mod 8 of byte p div 8 of the other
pub record SamePlaces (wide area : List ℕ) : Type 0 where
  pub wide-long : length wide ≡ place_count
  pub area-long : length area ≡ area_length
  pub bytes : (i : ℕ) → slice_index area i < 2 ^ byte_bits
  pub places : (p : ℕ) → slice_index wide p ≡ bit_in area p

module _ (f : State → State → Concept → Type 0) where
  -- where both hold one sheet, any, that is so of them
  abbrev pub OneSheetSamePlaces : Type 0
  OneSheetSamePlaces = (wide area : List ℕ) → LaysBytes f wide → Lays f area
      → SamePlaces wide area

  -- and where it is so, what the one holds the other holds
  abbrev pub BytesToBits : Type 0
  BytesToBits = (wide area : List ℕ) → SamePlaces wide area → LaysBytes f wide → Lays f area

  abbrev pub BitsToBytes : Type 0
  BitsToBytes = (wide area : List ℕ) → SamePlaces wide area → Lays f area → LaysBytes f wide

-- so after every round of a collection: with bytes that hold its sheet, an area holds it exactly
-- when that is so
abbrev pub SameAfterRounds : Type 0
SameAfterRounds = (𝓒 : Collection) (n : ℕ) (wide area : List ℕ)
    → LaysBytes (Marked 𝓒 n) wide → Lays (Marked 𝓒 n) area ↔ SamePlaces wide area

-- bytes and an area that both hold the sheet of a collection after n rounds, place by place the same
pub record BothLayouts (𝓒 : Collection) (n : ℕ) : Type 0 where
  pub wide : List ℕ
  pub area : List ℕ
  pub bytes-hold : LaysBytes (Marked 𝓒 n) wide
  pub bits-hold : Lays (Marked 𝓒 n) area
  pub same : SamePlaces wide area

-- after every round of a collection there are such
abbrev pub BothThere : Type 0
BothThere = (𝓒 : Collection) → WellFormed 𝓒 → (n : ℕ) → BothLayouts 𝓒 n

-- each of the two determines the other
abbrev pub BitsOnce : Type 0
BitsOnce = (wide x y : List ℕ) → SamePlaces wide x → SamePlaces wide y → x ≡ y

abbrev pub BytesOnce : Type 0
BytesOnce = (v w area : List ℕ) → SamePlaces v area → SamePlaces w area → v ≡ w

-- and to each there is the other
abbrev pub BitsThere : Type 0
BitsThere = (wide : List ℕ) → length wide ≡ place_count
    → ((p : ℕ) → slice_index wide p ≤ 1)
    → (area : List ℕ) × SamePlaces wide area

abbrev pub BytesThere : Type 0
BytesThere = (area : List ℕ) → length area ≡ area_length
    → ((i : ℕ) → slice_index area i < 2 ^ byte_bits)
    → (wide : List ℕ) × SamePlaces wide area
