-- Rows that say what a collection says, number for number: then a round makes the same of both.
use Rattle.std.specs.Prelude.{◌≡◌, ◌↔◌, List, ℕ, ◌<◌}
use Rattle.kinds.specs.declared.SignedRole.{SignedRole}
use Rattle.kinds.specs.declared.Concept.TheVariants.{Exists}
use Rattle.kinds.specs.Kinds.{most_states, inverse, state, signed, concept_of}
use Rattle.laws.specs.Member.{◌∈◌}
use Rattle.meaning.specs.Collection.{Collection}
use Rattle.meaning.specs.Orders.{RoleLe, ConceptLe}
use Rattle.meaning.specs.Lite.{valid_concepts, declared_states, TestAt, StepDown, StepUp}
use Rattle.sets.specs.Bits.{Has, members}
use Rattle.sets.specs.Relations.{relation_at}
use Rattle.sets.specs.declared.states.StateSet.{StateSet}
use Rattle.sets.specs.declared.concepts.ConceptSet.{ConceptSet}
use Rattle.sets.specs.declared.roles.RoleSet.{RoleSet}
use Rattle.rules.specs.declared.rows.Rows.{Rows}
use Rattle.rules.specs.Rows.{most_concepts, most_edges, pair, At, Lists, Relates, edge}

-- the roles above each role, in the order of a collection
pub record AreAbove (𝓒 : Collection) (above : List RoleSet) : Type 0 where
  pub roles : (R S : ℕ) → R < most_edges → S < most_edges → Lists above R S
      ↔ RoleLe 𝓒 (signed R) (signed S)

-- the concepts below each concept
pub record AreBelow (𝓒 : Collection) (below : List ConceptSet) : Type 0 where
  pub concepts : (D C : ℕ) → D < most_concepts → C < most_concepts → At below D C
      ↔ ConceptLe 𝓒 (concept_of C) (concept_of D)

-- the transitions of each signed role lead where a step down does
abbrev pub LeadDown : Collection → List (List StateSet) → Type 0
LeadDown 𝓒 transitions =
    (R s t : ℕ) → R < most_edges
    → Relates (relation_at transitions R) s t ↔ StepDown 𝓒 (signed R) (state s) (state t)

-- the edge e is the signed role numbered e
pub record EdgeOf (𝓒 : Collection) (rows : Rows) (e : ℕ) : Type 0 where
  pub parents : (B : ℕ) → B < most_concepts → Has (edge rows e).parents.0 B
      ↔ ConceptLe 𝓒 (concept_of B) (Exists (signed e))
  pub down : (s t : ℕ) → s < most_states → t < most_states → Relates (edge rows e).down s t
      ↔ StepDown 𝓒 (signed e) (state s) (state t)
  pub up : (s t : ℕ) → s < most_states → t < most_states → Relates (edge rows e).up s t
      ↔ StepUp 𝓒 (signed e) (state s) (state t)

pub record RowsOf (𝓒 : Collection) (rows : Rows) : Type 0 where
  pub states : (s : ℕ) → (s ∈ members most_states rows.states.0)
      ↔ (state s ∈ declared_states 𝓒.counts)
  pub concepts : (B : ℕ) → (B ∈ members most_concepts rows.concepts.0)
      ↔ (concept_of B ∈ valid_concepts 𝓒.counts)
  pub tests : (s t B : ℕ) → s < most_states → t < most_states → B < most_concepts
      → At rows.tests (pair s t) B ↔ TestAt 𝓒 (concept_of B) (state s) (state t)
  pub edges_to : (R e : ℕ) → R < most_edges → Lists rows.edges_to R e
      ↔ ((e < most_edges) × (signed R ≡ inverse (signed e)))
  pub edges : (e : ℕ) → e < most_edges → EdgeOf 𝓒 rows e
  -- a signed role whose child is valid has an edge
  pub low : (R : SignedRole) → Exists (inverse R) ∈ valid_concepts 𝓒.counts → R.0 < most_edges
