-- What the edges at an individual say of a collection's role facts (docs/RULES.md, section 5).
use Rattle.std.specs.Prelude.{◌≡◌, ◌↔◌, List, ℕ, ◌+◌, ◌/◌, ◌<◌, ◌≤◌, length, Contains, slice_index}
use Rattle.kinds.specs.declared.RoleName.{RoleName}
use Rattle.kinds.specs.declared.Individual.{Individual}
use Rattle.kinds.specs.declared.SignedRole.{SignedRole}
use Rattle.kinds.specs.declared.Counts.{Counts}
use Rattle.kinds.specs.Kinds.{most_individuals, most_roles, forward, backward}
use Rattle.meaning.specs.Lent.{Tables, collection, role_fact_width, most_role_facts, role_fact}
use Rattle.meaning.specs.Orders.{RoleLe}
use Rattle.meaning.specs.Model as model
use Rattle.edges.specs.declared.FactEdge.{FactEdge}
use Rattle.edges.specs.declared.packed.PackedEdge.{PackedEdge}
use Rattle.edges.specs.Edges.{facts_read, edges_at, IsFactEdge, HasEdge}
use Rattle.edges.specs.Packed.{AreEdges, edges_between}

-- the list of edges at an individual has the edges that facts make there, and no others
abbrev pub ListMeans : List ℕ → Type 0
ListMeans facts =
    (roles a : ℕ) (edge : FactEdge)
    → Contains (edges_at facts roles a) edge ↔ HasEdge facts roles a edge

-- fact k leads by the role r from the individual a to itself
pub record IsSelfFact (facts : List ℕ) (k : ℕ) (r : RoleName) (a : Individual) : Type 0 where
  pub read : k < facts_read facts
  pub is : role_fact facts k ≡ (r, a, a)
  pub role : r.0 < most_roles
  pub end : a.0 < most_individuals

-- it makes two edges at a, both back to a: by the role, and by its inverse
pub record IsMetTwice (facts : List ℕ) (r : RoleName) (a : Individual) : Type 0 where
  pub by_role : IsFactEdge facts a.0 (record { role = forward r; to = a })
  pub by_inverse : IsFactEdge facts a.0 (record { role = backward r; to = a })

abbrev pub SelfFactMeans : List ℕ → Type 0
SelfFactMeans facts =
    (k : ℕ) (r : RoleName) (a : Individual) → IsSelfFact facts k r a → IsMetTwice facts r a

-- no fact is past the most that a table may have
abbrev pub AreFew : List ℕ → Type 0
AreFew facts = length facts / role_fact_width ≤ most_role_facts

-- two lists made of the same facts, by the same roles, have each individual's edges in the same
-- places
pub record IsOneList (begins begins' : List ℕ) (list list' : List PackedEdge) : Type 0 where
  pub start : (a : ℕ) → a ≤ most_individuals → slice_index begins a ≡ slice_index begins' a
  pub own : (a : ℕ) → a < most_individuals
      → edges_between list (slice_index begins a) (slice_index begins (a + 1))
      ≡ edges_between list' (slice_index begins' a) (slice_index begins' (a + 1))

abbrev pub OneList : List ℕ → ℕ → Type 0
OneList facts roles =
    (begins begins' : List ℕ) (list list' : List PackedEdge) → AreEdges facts roles begins list
    → AreEdges facts roles begins' list' → IsOneList begins begins' list list'

module _ (c : Counts) (t : Tables) where
  -- an edge that a fact makes goes along the edges of the model by each role above its own
  abbrev pub EdgeMeans : Type 0
  EdgeMeans =
      (a : Individual) (edge : FactEdge) → IsFactEdge t.role-facts a.0 edge
      → (S : SignedRole) → RoleLe (collection c t) edge.role S
      → model.FactEdge (collection c t) a S edge.to

  -- a fact makes the edge at a, to b and by a role below S
  pub record IsEdgeOf (a : Individual) (S : SignedRole) (b : Individual) (edge : FactEdge)
      : Type 0 where
    pub is : IsFactEdge t.role-facts a.0 edge
    pub to : edge.to ≡ b
    pub below : RoleLe (collection c t) edge.role S

  -- each edge of the model between individuals is that of such an edge
  abbrev pub ModelEdgeMeans : Type 0
  ModelEdgeMeans =
      AreFew t.role-facts → (a b : Individual) (S : SignedRole)
      → model.FactEdge (collection c t) a S b → (edge : FactEdge) × IsEdgeOf a S b edge
