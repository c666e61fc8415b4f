-- What is worked out of the exclusions of a collection, as relations between numbers.
use Rattle.std.specs.Prelude.{ℕ, ◌+◌, ◌<◌, ◌⊎◌, ◌↔◌, IsTrue, Bool, List, slice_index_or}
use Rattle.kinds.specs.Kinds.{base, flip}
use Rattle.laws.specs.Gains.{OneOf}
use Rattle.sets.specs.Bits.{concept_width, role_width, Has}
use Rattle.sets.specs.Rows.{concept_marks, no_concepts}
use Rattle.sets.specs.declared.concepts.ConceptSet.{ConceptSet}
use Rattle.orders.specs.Marks.{Listed}
use Rattle.clash.specs.Conflicts.{IsExcluded, AreMet}

-- the number is below w, and has P
abbrev pub Below : ℕ → (ℕ → Type 0) → ℕ → Type 0
Below w P i = (i < w) × P i

-- ---- concepts

-- some row of a member of n has j
pub record SomeRow (rows : ℕ → ℕ → Bool) (n j : ℕ) : Type 0 where
  pub one : ℕ
  pub within : one < concept_width
  pub member : Has n one
  pub has : IsTrue (rows one j)

-- r is the union of the rows of the members of n
pub record Joins (rows : ℕ → ℕ → Bool) (n r : ℕ) : Type 0 where
  pub member : (j : ℕ) → Has r j ↔ SomeRow rows n j

-- of two numbers the one is in row k, and the other in some row of a member of rights
abbrev pub BesideRow : List ConceptSet → ℕ → ℕ → ℕ → ℕ → Type 0
BesideRow rows k rights i j =
    (IsTrue (concept_marks rows k i) × SomeRow (concept_marks rows) rights j)
    ⊎ (SomeRow (concept_marks rows) rights i × IsTrue (concept_marks rows k j))

-- the same of one of the first n rows, with what is excluded from it
abbrev pub BesideRows : List ConceptSet → List ConceptSet → ℕ → ℕ → ℕ → Type 0
BesideRows rows excluded =
    OneOf (λ k. BesideRow rows k (slice_index_or excluded k no_concepts).0)

-- an exclusion of the table, whose numbers have rows, stands above i and j
pub record IsApart (table : List ℕ) (order : ℕ → ℕ → Bool) (i j : ℕ) : Type 0 where
  pub left : ℕ
  pub right : ℕ
  pub left_row : left < concept_width
  pub right_row : right < concept_width
  pub listed : Listed table left right
  pub above : (IsTrue (order i left) × IsTrue (order j right))
      ⊎ (IsTrue (order i right) × IsTrue (order j left))

pub record AreApart (table : List ℕ) (order apart : ℕ → ℕ → Bool) : Type 0 where
  pub at : (i j : ℕ) → i < concept_width → j < concept_width
      → IsTrue (apart i j) ↔ IsApart table order i j

-- ---- roles

-- some role that follows from s is excluded from r, or the same of their inverses
abbrev pub ConflictBy : (ℕ → ℕ → Bool) → (ℕ → ℕ → Bool) → ℕ → ℕ → Type 0
ConflictBy excluded order r s =
    AreMet (excluded r) (order s) ⊎ AreMet (excluded (flip r)) (order (flip s))

-- an exclusion of the table, whose numbers have rows, stands above r and s
pub record Collide (table : List ℕ) (order : ℕ → ℕ → Bool) (r s : ℕ) : Type 0 where
  pub by : ℕ
  pub row : by < role_width
  pub excluded : IsExcluded table order r by
  pub above : IsTrue (order s by)

-- or above their inverses
abbrev pub IsConflict : List ℕ → (ℕ → ℕ → Bool) → ℕ → ℕ → Type 0
IsConflict table order r s =
    Collide table order r s ⊎ Collide table order (flip r) (flip s)

pub record AreConflicts (table : List ℕ) (order conflicts : ℕ → ℕ → Bool) : Type 0 where
  pub at : (r s : ℕ) → r < role_width → s < role_width
      → IsTrue (conflicts r s) ↔ IsConflict table order r s

-- ---- children

-- an unnamed element that ends by r breaks an exclusion: ∃ of the inverse of r is apart from
-- itself, or r is in conflict with itself
abbrev pub Breaks : (ℕ → ℕ → Bool) → (ℕ → ℕ → Bool) → ℕ → Type 0
Breaks apart conflicts r =
    IsTrue (apart (base + flip r) (base + flip r)) ⊎ IsTrue (conflicts r r)

-- the row has ∃ of a role of the set
pub record Promises (row : ℕ → Bool) (set : ℕ) : Type 0 where
  pub role : ℕ
  pub within : role < role_width
  pub member : Has set role
  pub has : IsTrue (row (base + role))

-- an unnamed element that ends by r has a child by a role of the set
abbrev pub LeadsTo : (ℕ → ℕ → Bool) → ℕ → ℕ → Type 0
LeadsTo order set r = Promises (order (base + flip r)) set

-- r is in the set, or leads to such a role
pub data IsDoomed (order : ℕ → ℕ → Bool) (breaking : ℕ) : ℕ → Type 0 where
  here : {r : ℕ} → Has breaking r → IsDoomed order breaking r
  below : {r s : ℕ} → r < role_width → s < role_width
      → IsTrue (order (base + flip r) (base + s)) → IsDoomed order breaking s
      → IsDoomed order breaking r

pub record AreDoomed (order : ℕ → ℕ → Bool) (breaking doomed : ℕ) : Type 0 where
  pub at : (r : ℕ) → Has doomed r ↔ IsDoomed order breaking r

-- ---- what nobody may have

-- the concept i is apart from itself, or promises a child by a role of the set
abbrev pub IsBarred : (ℕ → ℕ → Bool) → (ℕ → ℕ → Bool) → ℕ → ℕ → Type 0
IsBarred order apart doomed i = IsTrue (apart i i) ⊎ Promises (order i) doomed
