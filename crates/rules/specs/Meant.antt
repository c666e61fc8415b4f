-- What rows and transitions say of a collection (docs/RULES.md, section 6).
use Rattle.std.specs.Prelude.{◌≡◌, ◌↔◌, List, ℕ, ◌<◌, length}
use Rattle.kinds.specs.Kinds.{most_states, state, concept_of}
use Rattle.meaning.specs.Collection.{Collection}
use Rattle.meaning.specs.Lite.{lite}
use Rattle.theory.specs.Sheet.{Mark}
use Rattle.sets.specs.declared.concepts.ConceptSet.{ConceptSet}
use Rattle.sets.specs.declared.roles.RoleSet.{RoleSet}
use Rattle.sets.specs.declared.states.StateSet.{StateSet}
use Rattle.rules.specs.declared.rows.Rows.{Rows}
use Rattle.rules.specs.Rows.{most_concepts, most_edges, kind_of}
use Rattle.sets.specs.Relations.{relation_at}
use Rattle.rules.specs.Transitions.{AreTransitions}
use Rattle.rules.specs.Made.{IsStates, IsConcepts, AreTests, AreEdgesTo, AreEdges}
use Rattle.rules.specs.RowsOf.{AreAbove, AreBelow, LeadDown, RowsOf}

-- transitions as their type has them: so many relations, each with so many rows
pub record TransitionsLong (transitions : List (List StateSet)) : Type 0 where
  pub long : length transitions ≡ most_edges
  pub each : (R : ℕ) → R < most_edges → length (relation_at transitions R) ≡ most_states

-- the two orders of a collection, and the transitions of its steps
pub record HasTransitions (𝓒 : Collection) (above : List RoleSet) (below : List ConceptSet)
    (transitions : List (List StateSet)) : Type 0 where
  pub roles : AreAbove 𝓒 above
  pub concepts : AreBelow 𝓒 below
  pub are_transitions : AreTransitions 𝓒.steps above transitions

-- rows as the contracts of their makers leave them
pub record AreMade (𝓒 : Collection) (below : List ConceptSet) (transitions : List (List StateSet))
    (rows : Rows) : Type 0 where
  pub states : IsStates 𝓒.counts most_states rows.states.0
  pub concepts : IsConcepts 𝓒.counts most_concepts rows.concepts.0
  pub tests : AreTests 𝓒.steps below rows.tests
  pub edges_to : AreEdgesTo rows.edges_to
  pub edges : AreEdges below transitions rows.edges

module _ (𝓒 : Collection) where
  -- where the transitions of a signed role lead a step down does
  abbrev pub TransitionsMean : Type 0
  TransitionsMean =
      (above : List RoleSet) (below : List ConceptSet) (transitions : List (List StateSet))
      → HasTransitions 𝓒 above below transitions
      → LeadDown 𝓒 transitions

  -- rows that are made so say what the collection says
  abbrev pub RowsMean : Type 0
  RowsMean =
      (above : List RoleSet) (below : List ConceptSet) (transitions : List (List StateSet))
      → HasTransitions 𝓒 above below transitions
      → (rows : Rows) → AreMade 𝓒 below transitions rows → RowsOf 𝓒 rows

  -- and have its marks, round by round
  abbrev pub MarksMean : Type 0
  MarksMean =
      (rows : Rows) → RowsOf 𝓒 rows → (n s t B : ℕ)
      → Mark (kind_of rows) n s t B ↔ Mark (lite 𝓒) n (state s) (state t) (concept_of B)
