-- When the model breaks an exclusion, as computed relations tell it: an individual, an unnamed
-- element or an ordered pair has both its sides.
use Rattle.std.specs.Prelude.{ℕ, ◌+◌, ◌/◌, ◌<◌, ◌≡◌, ◌⊎◌, IsTrue, Bool, List, length}
use Rattle.kinds.specs.Kinds.{most_individuals, base, flip}
use Rattle.meaning.specs.Lent.{role_fact_width}
use Rattle.sets.specs.Bits.{concept_width, role_width, Has}
use Rattle.tables.specs.Records.{read_role_fact}
use Rattle.orders.specs.Marks.{Listed}
use Rattle.edges.specs.declared.FactEdge.{FactEdge}
use Rattle.edges.specs.Edges.{IsInRange, MakesEdge}

-- some number below w has P; some member of the set n has
pub record SomeBelow (w : ℕ) (P : ℕ → Type 0) : Type 0 where
  pub one : ℕ
  pub within : one < w
  pub has : P one

pub record SomeIn (w : ℕ) (P : ℕ → Type 0) (n : ℕ) : Type 0 where
  pub one : ℕ
  pub within : one < w
  pub member : Has n one
  pub has : P one

-- some exclusion of the table, both its numbers below n, has P on both sides
pub record BothSides (n : ℕ) (table : List ℕ) (P : ℕ → Type 0) : Type 0 where
  pub left : ℕ
  pub right : ℕ
  pub left_row : left < n
  pub right_row : right < n
  pub listed : Listed table left right
  pub has_left : P left
  pub has_right : P right

-- the number k is marked
abbrev pub Marked : (ℕ → Bool) → ℕ → Type 0
Marked row k = IsTrue (row k)

-- some exclusion of the table is marked on both sides
pub record HaveBothSides (n : ℕ) (table : List ℕ) (row : ℕ → Bool) : Type 0 where
  pub sides : BothSides n table (Marked row)

-- ---- concepts: who has what, what follows from what, and which roles are generating

-- the individual a has both sides of an exclusion
abbrev pub IndividualClashes : List ℕ → (ℕ → ℕ → Bool) → ℕ → Type 0
IndividualClashes table individuals a = HaveBothSides concept_width table (individuals a)

-- an unnamed element that ends by R does: it has what follows from ∃ of R's inverse
abbrev pub UnnamedClashes : List ℕ → (ℕ → ℕ → Bool) → ℕ → Type 0
UnnamedClashes table order R = HaveBothSides concept_width table (order (base + flip R))

-- some individual does, or some unnamed element: one ends by each generating role
abbrev pub ConceptsClash : List ℕ → (ℕ → ℕ → Bool) → (ℕ → ℕ → Bool) → ℕ → Type 0
ConceptsClash table individuals order generating =
    SomeBelow most_individuals (IndividualClashes table individuals)
    ⊎ SomeIn role_width (UnnamedClashes table order) generating

-- ---- roles: what follows from what, which are generating, and the edges that facts make by the
-- roles of a set

-- an element and its child by Q have both sides of an exclusion, on the way down or up
abbrev pub ChildClashes : List ℕ → (ℕ → ℕ → Bool) → ℕ → Type 0
ChildClashes table roles Q =
    HaveBothSides role_width table (roles Q) ⊎ HaveBothSides role_width table (roles (flip Q))

-- one of the first n facts, whose numbers are in range, makes the edge at a
pub record IsMade (facts : List ℕ) (n a : ℕ) (edge : FactEdge) : Type 0 where
  pub fact : ℕ
  pub before : fact < n
  pub rows : IsInRange (read_role_fact facts fact)
  pub makes : MakesEdge (read_role_fact facts fact) a edge

-- and its role is in the set
pub record HasMade (facts : List ℕ) (n among a : ℕ) (edge : FactEdge) : Type 0 where
  pub is : IsMade facts n a edge
  pub member : Has among edge.role.0

-- some whole record of the table does, however many there are
abbrev pub HasAny : List ℕ → ℕ → ℕ → FactEdge → Type 0
HasAny facts among = HasMade facts (length facts / role_fact_width) among

-- some edges from an individual give its pair with b the signed role S: it follows from that of one
-- of them
pub record PairHas (E : FactEdge → Type 0) (roles : ℕ → ℕ → Bool) (b S : ℕ) : Type 0 where
  pub edge : FactEdge
  pub has : E edge
  pub to : edge.to.0 ≡ b
  pub follows : IsTrue (roles edge.role.0 S)

-- of the edges of each individual those of a give some pair that starts with it both sides
pub record PairClashes (table : List ℕ) (E : ℕ → FactEdge → Type 0) (roles : ℕ → ℕ → Bool) (a : ℕ)
    : Type 0 where
  pub to : ℕ
  pub sides : BothSides role_width table (PairHas (E a) roles to)

-- some element and its child by a generating role do, or some pair of individuals, by the edges of
-- all facts
abbrev pub RolesClash : List ℕ → (ℕ → ℕ → Bool) → ℕ → List ℕ → ℕ → Type 0
RolesClash table roles generating facts among =
    SomeIn role_width (ChildClashes table roles) generating
    ⊎ SomeBelow most_individuals (PairClashes table (HasAny facts among) roles)
