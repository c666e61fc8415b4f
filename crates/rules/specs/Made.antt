-- What the maker of rows makes of a collection's counts, orders and steps.
use Rattle.std.specs.Prelude.{◌≡◌, ◌↔◌, ◌⊎◌, List, ℕ, ◌+◌, ◌<◌, slice_index_or}
use Rattle.kinds.specs.declared.Counts.{Counts}
use Rattle.kinds.specs.Kinds.{most_states, base, flip, state, concept_name, concept_of, StateDeclared, ConceptDeclared}
use Rattle.meaning.specs.Collection.{Step, step, test}
use Rattle.sets.specs.Bits.{Has}
use Rattle.sets.specs.declared.concepts.ConceptSet.{ConceptSet}
use Rattle.sets.specs.declared.roles.RoleSet.{RoleSet}
use Rattle.sets.specs.declared.states.StateSet.{StateSet}
use Rattle.rules.specs.declared.rows.Edge.{Edge}
use Rattle.sets.specs.Rows.{no_concepts}
use Rattle.rules.specs.Rows.{most_concepts, most_edges, pair, At, Lists, no_edge}
use Rattle.rules.specs.Steps.{Among}
use Rattle.sets.specs.Relations.{relation_at}

-- the declared states below n, the valid concepts below n
pub record IsStates (c : Counts) (n set : ℕ) : Type 0 where
  pub member : (s : ℕ) → Has set s ↔ ((s < n) × StateDeclared c (state s))

pub record IsConcepts (c : Counts) (n set : ℕ) : Type 0 where
  pub member : (B : ℕ) → Has set B ↔ ((B < n) × ConceptDeclared c (concept_of B))

-- by a step, B passes from s to t: q is the row of these two
pub record Passes (Is : Step → Type 0) (below : List ConceptSet) (q B : ℕ) : Type 0 where
  pub s : ℕ
  pub t : ℕ
  pub name : ℕ
  pub from_low : s < most_states
  pub to_low : t < most_states
  pub name_low : name < most_concepts
  pub there : q ≡ pair s t
  pub made : Is (step (state s) (test (concept_name name)) (state t))
  pub follows : At below name B

-- in the tests is what passes by a step
pub record AreTests (steps : List Step) (below tests : List ConceptSet) : Type 0 where
  pub at : (q B : ℕ) → At tests q B ↔ Passes (Among steps) below q B

-- the edge to a child that is known by "has a neighbour by R" is that of the inverse of R
pub record IsEdgesTo (R set : ℕ) : Type 0 where
  pub member : (e : ℕ) → Has set e ↔ ((e < most_edges) × (R ≡ flip e))

pub record AreEdgesTo (edges_to : List RoleSet) : Type 0 where
  pub at : (R e : ℕ) → R < most_edges → Lists edges_to R e ↔ ((e < most_edges) × (R ≡ flip e))

-- a concept below "has a neighbour by R" has a child by R; down lead the transitions of R, up those
-- of its inverse
pub record IsEdge (below : List ConceptSet) (transitions : List (List StateSet)) (R : ℕ)
    (e : Edge) : Type 0 where
  pub parents : e.parents ≡ slice_index_or below (base + R) no_concepts
  pub down : e.down ≡ relation_at transitions R
  pub up : e.up ≡ relation_at transitions (flip R)

pub record AreEdges (below : List ConceptSet) (transitions : List (List StateSet))
    (edges : List Edge) : Type 0 where
  pub at : (R : ℕ) → R < most_edges → IsEdge below transitions R (slice_index_or edges R no_edge)

-- ---- what the loops do

-- r has the members of set, and k where P holds
pub record InsertsIf (P : Type 0) (k set r : ℕ) : Type 0 where
  pub member : (i : ℕ) → Has r i ↔ (Has set i ⊎ ((i ≡ k) × P))
