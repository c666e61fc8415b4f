-- Edges in 16 bits, and lists of them.
use Rattle.std.specs.Prelude.{ℕ, ◌≡◌, ◌+◌, ◌-◌, ◌*◌, ◌/◌, ◌%◌, ◌<◌, ◌≤◌, List, length, map, take, drop, slice_index, slice_index_or}
use Rattle.kinds.specs.Kinds.{most_individuals, signed, individual}
use Rattle.meaning.specs.Lent.{most_role_facts}
use Rattle.sets.specs.Bits.{role_width}
use Rattle.edges.specs.declared.FactEdge.{FactEdge}
use Rattle.edges.specs.declared.packed.PackedEdge.{PackedEdge}
use Rattle.edges.specs.Edges.{edges_at, start_of}

-- the most edges that facts can make: two for each fact that is read
abbrev pub most_fact_edges : ℕ
most_fact_edges = 2 * most_role_facts

abbrev pub edge_of : PackedEdge → FactEdge
edge_of packed = record { role = signed (packed.0 / 256); to = individual (packed.0 % 256) }

abbrev pub blank : PackedEdge
blank = record { 0 = 0 }

-- the edges that stand in a list from a place on, up to another
abbrev pub edges_between : List PackedEdge → ℕ → ℕ → List FactEdge
edges_between list from to = map edge_of (take (to - from) (drop from list))

-- the role and the individual of each edge of a list are in range
pub record AreInRange (list : List PackedEdge) : Type 0 where
  pub role : (i : ℕ) → i < length list → (slice_index_or list i blank).0 / 256 < role_width
  pub to : (i : ℕ) → i < length list → (slice_index_or list i blank).0 % 256 < most_individuals

-- the list has the edges of each individual, one individual after the other
pub record AreEdges (facts : List ℕ) (roles : ℕ) (begins : List ℕ) (list : List PackedEdge)
    : Type 0 where
  pub start : (a : ℕ) → a ≤ most_individuals → slice_index begins a ≡ start_of facts roles a
  pub few : start_of facts roles most_individuals ≤ most_fact_edges
  pub own : (a : ℕ) → a < most_individuals
      → edges_between list (slice_index begins a) (slice_index begins (a + 1))
      ≡ edges_at facts roles a

-- what stood in the list past all edges of the facts stands there still
pub record KeepsRest (facts : List ℕ) (roles : ℕ) (old new : List PackedEdge) : Type 0 where
  pub at : (p : ℕ) → start_of facts roles most_individuals ≤ p
      → slice_index_or new p blank ≡ slice_index_or old p blank
