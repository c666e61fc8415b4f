-- A lent table as its records, each as the list of its numbers; and the records in order, each
-- once.
use Rattle.std.specs.Prelude.{◌≡◌, ◌↔◌, ℕ, ◌*◌, ◌/◌, ◌%◌, ◌^◌, ◌<◌, List, length}
use Rattle.std.specs.List.{flat_map, AllByRecursion}
use Rattle.std.specs.Simd.{first_chunks}
use Rattle.std.specs.Ordering.{nat_cmp}
use Rattle.std.specs.Cmp.Lexicographic.{slice_cmp}
use Rattle.std.specs.List.Sorted.{IsStrictlySortedBy}
use Rattle.laws.specs.Member.{◌∈◌}

-- the whole records of a table, each as the list of its numbers
abbrev pub rows : ℕ → List ℕ → List (List ℕ)
rows width t = first_chunks width (length t / width) t

-- the numbers of some records, one record after another
abbrev pub flat : List (List ℕ) → List ℕ
flat l = flat_map (λ r. r) l

-- each record has so many numbers
abbrev pub AreWide : ℕ → List (List ℕ) → Type 0
AreWide width l = AllByRecursion (λ r. length r ≡ width) l

-- the same records stand in both, in any order and repeated as they may be
abbrev pub SameMembers : List (List ℕ) → List (List ℕ) → Type 0
SameMembers l m = (r : List ℕ) → (r ∈ l) ↔ (r ∈ m)

abbrev pub SameRecords : ℕ → List ℕ → List ℕ → Type 0
SameRecords width t u = SameMembers (rows width t) (rows width u)

-- the old records in order, each once: each is below the next in the first number in which they
-- differ
pub record AreTidied (old new : List (List ℕ)) : Type 0 where
  pub rises : IsStrictlySortedBy (slice_cmp nat_cmp) new
  pub same : SameMembers old new

-- a table of the old table's records in order, each once, and of nothing else
pub record IsTidied (width : ℕ) (old new : List ℕ) : Type 0 where
  pub whole : length new % width ≡ 0
  pub tidied : AreTidied (rows width old) (rows width new)

-- so many records, of so many numbers of two bytes each, have a place in memory
pub record HasPlace (width most : ℕ) : Type 0 where
  pub wide : 0 < width
  pub narrow : width < 2 ^ 16
  pub small : most * (width * 2) < 2 ^ 63
