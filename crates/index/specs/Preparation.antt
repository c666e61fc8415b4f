-- What a preparation is made of, and what holds of it.
use Rattle.std.specs.Prelude.{◌≡◌, List, ℕ, length, min}
use Rattle.kinds.specs.declared.Counts.{Counts}
use Rattle.kinds.specs.Kinds.{CountsFit}
use Rattle.meaning.specs.Collection.{Collection}
use Rattle.meaning.specs.Lent.{Tables, collection, TablesFit, NumbersFit}
use Rattle.meaning.specs.Model.{Contradiction}
use Rattle.theory.specs.Sheet as sheet
use Rattle.meaning.specs.Lite.{lite}
use Rattle.meaning.specs.Layout.{area_length, Lays, zeros}
use Rattle.meaning.specs.Deeds.{SameButDeeds}
use Rattle.tables.specs.Lists.{lists}
use Rattle.index.specs.declared.lent.Lent.{Lent}

-- all of a call but what is asked, and of the areas their lengths alone
pub record Preparation : Type 0 where
  pub counts : Counts
  pub tables : Tables
  pub allowance : ℕ
  pub area : ℕ
  pub spare : ℕ

-- its parts, in their order
abbrev pub made_of : Counts → Tables → ℕ → ℕ → ℕ → Preparation
made_of c t n a s = record { counts = c; tables = t; allowance = n; area = a; spare = s }

-- what a caller lends, with areas of these lengths
abbrev pub preparation : Lent → ℕ → ℕ → Preparation
preparation l = made_of l.collection.counts (lists l.collection) l.allowance

-- what a caller lends, with these areas
abbrev pub prepared_of : Lent → List ℕ → List ℕ → Preparation
prepared_of l area spare = preparation l (length area) (length spare)

-- what a caller lends, with two areas of their length, whatever they hold
abbrev pub fitting_of : Lent → Preparation
fitting_of l = preparation l area_length area_length

-- a preparation with other tables, all else equal
abbrev pub with_tables : Preparation → Tables → Preparation
with_tables p t = record p { tables = t }

-- it holds of each preparation that differs from this one only in deed numbers
abbrev pub WhateverDeeds : Preparation → (Preparation → Type 0) → Type 0
WhateverDeeds p P = (t : Tables) → SameButDeeds p.tables t → P (with_tables p t)

abbrev pub collection_in : Preparation → Collection
collection_in p = collection p.counts p.tables

-- the tests 4, 5 and 6
pub record Fits (p : Preparation) : Type 0 where
  pub counts : CountsFit p.counts
  pub tables : TablesFit p.tables p.area p.spare
  pub numbers : NumbersFit p.counts p.tables

-- they hold, and the canonical model breaks no exclusion: then its loop sheet is worked out
pub record HasSheet (p : Preparation) : Type 0 where
  pub fits : Fits p
  pub sane : Contradiction (collection_in p) → ⊥

abbrev pub RoundsNeeded : Preparation → ℕ → Type 0
RoundsNeeded p = sheet.Needed (lite (collection_in p))

abbrev pub HoldsSheet : Preparation → ℕ → List ℕ → Type 0
HoldsSheet p n = Lays (sheet.Mark (lite (collection_in p)) n)

-- where there is a sheet, an area holds it after the lesser of the rounds needed and those allowed
abbrev pub HoldsPrepared : Preparation → List ℕ → Type 0
HoldsPrepared p area =
    HasSheet p → (n : ℕ) → RoundsNeeded p n → HoldsSheet p (min n p.allowance) area

-- what preparing p leaves: x in the first area and y in the second, where area and spare were
pub record Left (p : Preparation) (area spare x y : List ℕ) : Type 0 where
  pub sheet : HoldsPrepared p x
  pub cleared : HasSheet p → y ≡ zeros
  pub untouched : (HasSheet p → ⊥) → x ≡ area
  pub spared : (HasSheet p → ⊥) → y ≡ spare
