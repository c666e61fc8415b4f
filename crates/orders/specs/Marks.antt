-- What the steps of an order do to the marks of rows, over the numbers below n.
use Rattle.std.specs.Prelude.{ℕ, ◌-◌, ◌/◌, ◌<◌, ◌≤◌, ◌≡◌, ◌⊎◌, ◌||◌, ◌↔◌, Bool, false, IsTrue, List, [], length, slice_index_or}
use Rattle.kinds.specs.Kinds.{base, signed, inverse}
use Rattle.meaning.specs.Lent.{field, rule_width}
use Rattle.laws.specs.Marks.{mark}
use Rattle.laws.specs.Gains.{OneOf, Either}
use Rattle.laws.specs.Warshall.{Star}
use Rattle.sets.specs.Bits.{has, Has, concept_width, role_width}
use Rattle.sets.specs.Rows.{role_marks}
use Rattle.sets.specs.declared.roles.RoleSet.{RoleSet}

-- one pair; the pair (k, k); the pairs (i, i)
abbrev pub Pair : ℕ → ℕ → ℕ → ℕ → Type 0
Pair a b i j = (i ≡ a) × (j ≡ b)

abbrev pub Own : ℕ → ℕ → ℕ → Type 0
Own k = Pair k k

abbrev pub Diagonal : ℕ → ℕ → Type 0
Diagonal i j = i ≡ j

-- the two numbers of rule k; those of any rule
abbrev pub Hit : List ℕ → ℕ → ℕ → ℕ → Type 0
Hit t k = Pair (field rule_width t 0 k) (field rule_width t 1 k)

abbrev pub Listed : List ℕ → ℕ → ℕ → Type 0
Listed t = OneOf (Hit t) (length t / rule_width)

-- the number of the inverse
abbrev pub turn : ℕ → ℕ
turn i = (inverse (signed i)).0

-- the pairs of a relation, and those whose inverses it holds
abbrev pub WithInverses : (ℕ → ℕ → Type 0) → ℕ → ℕ → Type 0
WithInverses E i j = E i j ⊎ E (turn i) (turn j)

-- the two numbers of rule k or of its inverse; those of any rule
abbrev pub RoleHit : List ℕ → ℕ → ℕ → ℕ → Type 0
RoleHit t k = WithInverses (Hit t k)

abbrev pub RoleListed : List ℕ → ℕ → ℕ → Type 0
RoleListed t = OneOf (RoleHit t) (length t / rule_width)

-- the numbers of ∃R and ∃S where m marks R and S
abbrev pub Wide : (ℕ → ℕ → Bool) → ℕ → ℕ → Type 0
Wide m i j = (base ≤ i) × (base ≤ j) × IsTrue (m (i - base) (j - base))

-- a pair below the width that a table lists, or that marks of roles widen
pub record IsPair (rules : List ℕ) (roles : ℕ → ℕ → Bool) (i j : ℕ) : Type 0 where
  pub row : i < concept_width
  pub col : j < concept_width
  pub pair : Either (Wide roles) (Listed rules) i j

-- m marks what follows from those pairs
pub record IsClosedOver (rules : List ℕ) (roles m : ℕ → ℕ → Bool) : Type 0 where
  pub at : (i j : ℕ) → i < concept_width → j < concept_width
      → IsTrue (m i j) ↔ Star (IsPair rules roles) i j

-- m marks exactly the pairs of E
pub record Shows (n : ℕ) (m : ℕ → ℕ → Bool) (E : ℕ → ℕ → Type 0) : Type 0 where
  pub at : (i j : ℕ) → i < n → j < n → IsTrue (m i j) ↔ E i j

-- the marks of both rows
pub record OrRow (n : ℕ) (a b r : List Bool) : Type 0 where
  pub at : (j : ℕ) → j < n
      → slice_index_or r j false ≡ (slice_index_or a j false || slice_index_or b j false)

-- each member of the set n, with each number that has P
abbrev pub Block : ℕ → (ℕ → Type 0) → ℕ → ℕ → Type 0
Block n P i j = Has n i × P j

-- of row i the members of rest are left; the others are in the shared set, and then i is one of the
-- holders, each of which has all of that set in its row
pub record LeavesRow (shared i row old rest new : ℕ) : Type 0 where
  pub kept : (k : ℕ) → Has old k → Has new k
  pub holds : (k : ℕ) → Has new k
      → Has old k ⊎ ((k ≡ i) × ((j : ℕ) → Has shared j → Has row j))
  pub part : (j : ℕ) → Has rest j → Has row j
  pub all : (j : ℕ) → Has row j → Has rest j ⊎ (Has shared j × Has new i)

-- n rows of n
pub record Square (n : ℕ) (m : List (List Bool)) : Type 0 where
  pub rows : length m ≡ n
  pub cols : (i : ℕ) → i < n → length (slice_index_or m i []) ≡ n

-- the number j is in the set n where the row marks it
pub record Packs (row : List Bool) (n : ℕ) : Type 0 where
  pub at : (j : ℕ) → j < role_width → has n j ≡ slice_index_or row j false

pub record PacksRows (m : List (List Bool)) (rows : List RoleSet) : Type 0 where
  pub at : (i j : ℕ) → i < role_width → j < role_width → role_marks rows i j ≡ mark m i j
