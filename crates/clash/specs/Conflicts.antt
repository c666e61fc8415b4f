-- The exclusions of a table, as relations that are worked out from it.
use Rattle.std.specs.Prelude.{ℕ, ◌+◌, ◌/◌, ◌<◌, ◌≡◌, ◌⊎◌, ◌↔◌, IsTrue, Bool, List, length, slice_index_or}
use Rattle.kinds.specs.Kinds.{base, flip}
use Rattle.laws.specs.Gains.{Either, OneOf}
use Rattle.meaning.specs.Lent.{rule_width}
use Rattle.sets.specs.Bits.{concept_width, role_width, Has, Meets}
use Rattle.sets.specs.Rows.{no_concepts}
use Rattle.sets.specs.declared.concepts.ConceptSet.{ConceptSet}
use Rattle.tables.specs.declared.records.RolePair.{RolePair}
use Rattle.tables.specs.Records.{read_role_pair}
use Rattle.orders.specs.Marks.{Pair, Listed}
use Rattle.edges.specs.declared.FactEdge.{FactEdge}

-- ---- concepts

-- each member of the set n is in the set m
abbrev pub IsPart : ℕ → ℕ → Type 0
IsPart n m = (k : ℕ) → Has n k → Has m k

-- the set has what the first n rows have
pub record AreAmong (n : ℕ) (rows : ℕ → ℕ → Bool) (among : ℕ) : Type 0 where
  pub at : (i k : ℕ) → i < n → IsTrue (rows i k) → Has among k

-- the set has what an unnamed element has that ends by a generating role
pub record UnnamedAmong (order : ℕ → ℕ → Bool) (generating among : ℕ) : Type 0 where
  pub at : (R k : ℕ) → Has generating R → IsTrue (order (base + flip R) k) → Has among k

-- the relation has the pairs of the table, and the set every left side with a right side among
-- some concepts
pub record AreConflicts (table : List ℕ) (among : ℕ) (excluded : ℕ → ℕ → Bool) (lefts : ℕ)
    : Type 0 where
  pub at : (i j : ℕ) → i < concept_width → j < concept_width
      → IsTrue (excluded i j) ↔ Listed table i j
  pub covers : (i j : ℕ) → i < concept_width → IsTrue (excluded i j) → Has among j → Has lefts i

-- the set has each of the first n concepts whose row has one of some concepts
pub record Covers (rows : ℕ → ℕ → Bool) (n among lefts : ℕ) : Type 0 where
  pub at : (i j : ℕ) → i < n → IsTrue (rows i j) → Has among j → Has lefts i

-- row i of the rows meets a set
abbrev pub MeetsRow : List ConceptSet → ℕ → ℕ → Type 0
MeetsRow rows n i = Meets (slice_index_or rows i no_concepts).0 n

-- ---- roles

-- a pair both ways; that of record k, both ways; those of all records
abbrev pub BothWays : RolePair → ℕ → ℕ → Type 0
BothWays pair = Either (Pair pair.left.0 pair.right.0) (Pair pair.right.0 pair.left.0)

abbrev pub SideOf : List ℕ → ℕ → ℕ → ℕ → Type 0
SideOf table k = BothWays (read_role_pair table k)

abbrev pub SidesListed : List ℕ → ℕ → ℕ → Type 0
SidesListed table = OneOf (SideOf table) (length table / rule_width)

-- r is the union of the rows of the members of n
pub record Joins (rows : ℕ → ℕ → Bool) (n r : ℕ) : Type 0 where
  pub member : (j : ℕ) → Has r j ↔ ((i : ℕ) × (i < role_width) × Has n i × IsTrue (rows i j))

-- for each role the union of the rows of those that follow from it
pub record Raises (rows roles r : ℕ → ℕ → Bool) : Type 0 where
  pub at : (p j : ℕ) → p < role_width → j < role_width
      → IsTrue (r p j) ↔ ((i : ℕ) × (i < role_width) × IsTrue (roles p i) × IsTrue (rows i j))

-- n is the union of the first w rows
pub record IsUnionBelow (rows : ℕ → ℕ → Bool) (w n : ℕ) : Type 0 where
  pub member : (j : ℕ) → Has n j ↔ ((i : ℕ) × (i < w) × IsTrue (rows i j))

-- j is excluded from a role that follows from r
pub record IsExcluded (table : List ℕ) (roles : ℕ → ℕ → Bool) (r j : ℕ) : Type 0 where
  pub by : ℕ
  pub row : by < role_width
  pub above : IsTrue (roles r by)
  pub sides : Listed table by j ⊎ Listed table j by

-- the roles that are excluded from each role
pub record Excludes (table : List ℕ) (roles excluded : ℕ → ℕ → Bool) : Type 0 where
  pub at : (r j : ℕ) → r < role_width → j < role_width
      → IsTrue (excluded r j) ↔ IsExcluded table roles r j

-- some role is excluded from r
pub record IsConcerned (table : List ℕ) (roles : ℕ → ℕ → Bool) (r : ℕ) : Type 0 where
  pub within : r < role_width
  pub from : ℕ
  pub row : from < role_width
  pub excluded : IsExcluded table roles r from

-- the set has the roles that an exclusion concerns
pub record AreConcerned (table : List ℕ) (roles : ℕ → ℕ → Bool) (n : ℕ) : Type 0 where
  pub member : (r : ℕ) → Has n r ↔ IsConcerned table roles r

-- some role is marked in both rows
pub record AreMet (x y : ℕ → Bool) : Type 0 where
  pub role : ℕ
  pub within : role < role_width
  pub left : IsTrue (x role)
  pub right : IsTrue (y role)

-- what the edge gives its pair: the roles that follow from its own
pub record ByEdge (roles : ℕ → ℕ → Bool) (edge : FactEdge) (b S : ℕ) : Type 0 where
  pub same : b ≡ edge.to.0
  pub follows : IsTrue (roles edge.role.0 S)
