-- How the bytes of a stored area of 16 states stand in an area of today, and what moving answers
-- and leaves (docs/RULES.md, section 10, "Areas moved").
use Rattle.std.specs.Prelude.{◌≡◌, ◌≢◌, ◌↔◌, ◌⊎◌, List, ℕ, ◌+◌, ◌*◌, ◌/◌, ◌%◌, ◌≤◌, ◌<◌}
use Rattle.std.specs.Prelude.{length, slice_index, Result, Err, IsOk, IfOk, OnErr}
use Rattle.kinds.specs.Kinds.{most_states}
use Rattle.meaning.specs.Collection.{Collection, WellFormed}
use Rattle.meaning.specs.Layout.{concept_numbers, byte_bits, area_length, Lays}
use Rattle.meaning.specs.LawsOfSheet.{Marked}
use Rattle.meaning.specs.Former.{former_states, former_length, FormerLays, IsMoved, MarksAbove}
use Rattle.sheet.specs.declared.former.Unmoved.{Unmoved}
use Rattle.sheet.specs.declared.former.Unmoved.TheVariants.{BadLength, StateAbove15}

-- each area has the bytes that it is to have
pub record AreLong (stored area : List ℕ) : Type 0 where
  pub stored-long : length stored ≡ former_length
  pub area-long : length area ≡ area_length

-- the bytes of the marks from one state: in a stored area, and in one of today
abbrev pub former_row : ℕ
former_row = former_states * concept_numbers / byte_bits

abbrev pub row : ℕ
row = most_states * concept_numbers / byte_bits

-- in an area of today byte i has the places of a state above 15
abbrev pub IsAbove : ℕ → Type 0
IsAbove i = (former_states * row ≤ i) ⊎ (former_row ≤ i % row)

-- and has a mark there, where the byte is this number
pub record IsMarkAbove (i byte : ℕ) : Type 0 where
  pub above : IsAbove i
  pub some : byte ≢ 0

-- one such byte has a mark
pub record HasAbove (area : List ℕ) : Type 0 where
  pub byte : ℕ
  pub within : byte < length area
  pub above : IsAbove byte
  pub some : slice_index area byte ≢ 0

-- the rows of the states below n have the same bytes in both
pub record HasRows (n : ℕ) (stored area : List ℕ) : Type 0 where
  pub long : AreLong stored area
  pub same : (s i : ℕ) → s < n → i < former_row
      → slice_index area (row * s + i) ≡ slice_index stored (former_row * s + i)

-- all rows of a stored area stand in the area of today, and nothing else does
pub record IsSpread (stored area : List ℕ) : Type 0 where
  pub rows : HasRows former_states stored area
  pub rest : (i : ℕ) → IsAbove i → slice_index area i ≡ 0

-- an area can be moved back: both are long enough, and no state above 15 is marked in it
pub record CanMoveBack (stored area : List ℕ) : Type 0 where
  pub long : AreLong stored area
  pub below : MarksAbove area → ⊥

-- and it cannot, since one is marked
pub record GoesAbove (stored area : List ℕ) : Type 0 where
  pub long : AreLong stored area
  pub above : MarksAbove area

-- ---- what moving answers, and leaves

abbrev pub Verdict : Type 0
Verdict = Result (Unit {0}) Unmoved

pub record MovesFrom (stored old : List ℕ) (r : Verdict) (new : List ℕ) : Type 0 where
  pub ok : IsOk r ↔ AreLong stored old
  pub bad_length : (r ≡ Err BadLength) ↔ (¬ AreLong stored old)
  pub moved : IfOk r (λ done. IsMoved stored new)
  pub unwritten : OnErr r (new ≡ old)

pub record MovesBack (area old : List ℕ) (r : Verdict) (new : List ℕ) : Type 0 where
  pub ok : IsOk r ↔ CanMoveBack old area
  pub bad_length : (r ≡ Err BadLength) ↔ (¬ AreLong old area)
  pub above : (r ≡ Err StateAbove15) ↔ GoesAbove old area
  pub moved : IfOk r (λ done. IsMoved new area)
  pub unwritten : OnErr r (new ≡ old)

-- each has one outcome,
abbrev pub OneMoved : Type 0
OneMoved = (stored old : List ℕ) (r q : Verdict) (x y : List ℕ) → MovesFrom stored old r x
    → MovesFrom stored old q y → (r ≡ q) × (x ≡ y)

abbrev pub OneMovedBack : Type 0
OneMovedBack = (area old : List ℕ) (r q : Verdict) (x y : List ℕ) → MovesBack area old r x
    → MovesBack area old q y → (r ≡ q) × (x ≡ y)

-- and takes back the other: what is moved and moved back, into an area that is long enough, is as
-- it was
abbrev pub ThereAndBack : Type 0
ThereAndBack = (stored old area : List ℕ) (r : Verdict) → MovesFrom stored old r area → IsOk r
    → (other back : List ℕ) (q : Verdict) → MovesBack area other q back
    → length other ≡ former_length → IsOk q × (back ≡ stored)

abbrev pub BackAndThere : Type 0
BackAndThere = (area old stored : List ℕ) (r : Verdict) → MovesBack area old r stored → IsOk r
    → (other again : List ℕ) (q : Verdict) → MovesFrom stored other q again
    → length other ≡ area_length → IsOk q × (again ≡ area)

-- the area that holds the sheet of a collection of at most 16 states after some rounds is moved to
-- the one that holds it today, and back
abbrev pub SheetMoved : Type 0
SheetMoved = (𝓒 : Collection) → WellFormed 𝓒 → 𝓒.counts.states ≤ former_states
    → (n : ℕ) (stored old area : List ℕ) (r : Verdict) → FormerLays (Marked 𝓒 n) stored
    → MovesFrom stored old r area → length old ≡ area_length
    → IsOk r × Lays (Marked 𝓒 n) area

abbrev pub SheetMovedBack : Type 0
SheetMovedBack = (𝓒 : Collection) → WellFormed 𝓒 → 𝓒.counts.states ≤ former_states
    → (n : ℕ) (area old stored : List ℕ) (r : Verdict) → Lays (Marked 𝓒 n) area
    → MovesBack area old r stored → length old ≡ former_length
    → IsOk r × FormerLays (Marked 𝓒 n) stored
