-- What rows of sets say: the rules' kind that they come to. Concepts, states, edges are numbers here.
use Rattle.std.specs.Prelude.{◌≡◌, ◌↔◌, ◌⊎◌, List, [], ℕ, ◌+◌, ◌<◌, length, slice_index_or}
use Rattle.kinds.specs.Kinds.{most_states, base}
use Rattle.theory.specs.Kind.{Kind}
use Rattle.sets.specs.Bits.{concept_width, role_width, Has, members}
use Rattle.sets.specs.Rows.{no_concepts, no_roles}
pub use Rattle.sets.specs.Relations.{pair, At, Relates}
use Rattle.sets.specs.declared.concepts.ConceptSet.{ConceptSet}
use Rattle.sets.specs.declared.roles.RoleSet.{RoleSet}
use Rattle.rules.specs.declared.rows.Edge.{Edge}
use Rattle.rules.specs.declared.rows.Rows.{Rows}

-- the numbers that basic concepts may have, and those of edges
abbrev pub most_concepts : ℕ
most_concepts = concept_width

abbrev pub most_edges : ℕ
most_edges = role_width

-- the edge e is in row c
abbrev pub Lists : List RoleSet → ℕ → ℕ → Type 0
Lists rows c e = Has (slice_index_or rows c no_roles).0 e

abbrev pub no_edge : Edge
no_edge = record { parents = no_concepts; down = []; up = [] }

abbrev pub edge : Rows → ℕ → Edge
edge rows e = slice_index_or rows.edges e no_edge

-- an edge by its number, to a child that is known by "has a neighbour by" a signed role
pub record Link : Type 0 where
  pub to : ℕ
  pub by : ℕ

-- B has a child by the link
pub record Child (rows : Rows) (B : ℕ) (link : Link) : Type 0 where
  pub listed : Lists rows.edges_to link.to link.by
  pub has : Has (edge rows link.by).parents.0 B

abbrev pub kind_of : Rows → Kind
kind_of rows = record {
  Concept = ℕ;
  State = ℕ;
  Edge = Link;
  concepts = members most_concepts rows.concepts.0;
  states = members most_states rows.states.0;
  end = λ link. base + link.to;
  child = Child rows;
  test = λ B s t. At rows.tests (pair s t) B;
  down = λ link. Relates (edge rows link.by).down;
  up = λ link. Relates (edge rows link.by).up;
}

-- s and t are declared states, and B is a valid concept
pub record May (rows : Rows) (s t B : ℕ) : Type 0 where
  pub from_low : s < most_states
  pub to_low : t < most_states
  pub from : Has rows.states.0 s
  pub to : Has rows.states.0 t
  pub of : Has rows.concepts.0 B

-- the set has the concepts that may be marked at (s, t)
pub record IsMarkable (rows : Rows) (s t set : ℕ) : Type 0 where
  pub member : (B : ℕ) → Has set B ↔ May rows s t B

-- new has the marks of old, and those of P
pub record Gets (P : ℕ → ℕ → Type 0) (old new : List ConceptSet) : Type 0 where
  pub long : length new ≡ length old
  pub at : (q k : ℕ) → At new q k ↔ (At old q k ⊎ P q k)
