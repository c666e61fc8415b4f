-- DL-Lite as a rules' kind: an edge is a signed role. The loop sheet's three rules are those of
-- docs/RULES.md (section 6) here.
use Rattle.std.specs.Prelude.{List, ◌++◌, map, ◌*◌}
use Rattle.kinds.specs.declared.ConceptName.{ConceptName}
use Rattle.kinds.specs.declared.State.{State}
use Rattle.kinds.specs.declared.SignedRole.{SignedRole}
use Rattle.kinds.specs.declared.Concept.{Concept}
use Rattle.kinds.specs.declared.Concept.TheVariants.{Name, Exists}
use Rattle.kinds.specs.declared.Counts.{Counts}
use Rattle.kinds.specs.Kinds.{inverse, concept_name, signed, state}
use Rattle.laws.specs.Numbers.{numbered}
use Rattle.meaning.specs.Collection.{Collection, RoleStep, TestStep}
use Rattle.meaning.specs.Orders.{RoleLe, ConceptLe}
use Rattle.theory.specs.Kind.{Kind}

-- what is declared, in order
unfoldable pub signed_roles : Counts → List SignedRole
signed_roles c = numbered signed (2 * c.roles)

unfoldable pub valid_concepts : Counts → List Concept
valid_concepts c = map Name (numbered concept_name c.names) ++ map Exists (signed_roles c)

unfoldable pub declared_states : Counts → List State
declared_states c = numbered state c.states

module _ (𝓒 : Collection) where
  -- a test step from s to t on A with B ≤ A
  abbrev pub TestAt : Concept → State → State → Type 0
  TestAt B s t = (A : ConceptName) × TestStep 𝓒 s A t × ConceptLe 𝓒 B (Name A)

  -- a role step S leads s to t with R ≤ S
  abbrev pub StepDown : SignedRole → State → State → Type 0
  StepDown R s t = (S : SignedRole) × RoleStep 𝓒 s S t × RoleLe 𝓒 R S

  -- a role step from u to v carries the inverse of some T with R ≤ T
  abbrev pub StepUp : SignedRole → State → State → Type 0
  StepUp R u v = (U : SignedRole) × RoleStep 𝓒 u (inverse U) v × RoleLe 𝓒 R U

  abbrev pub lite : Kind
  lite = record {
    Concept = Concept;
    State = State;
    Edge = SignedRole;
    concepts = valid_concepts 𝓒.counts;
    states = declared_states 𝓒.counts;
    end = λ R. Exists (inverse R);
    child = λ B R. ConceptLe 𝓒 B (Exists R);
    test = TestAt;
    down = StepDown;
    up = StepUp;
  }
