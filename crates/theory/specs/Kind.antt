-- The rules' kind: all that the tree, the loop sheet and its rounds (docs/RULES.md, section 6) know of
-- rules and question.
-- DL-Lite is one instance.
use Rattle.std.specs.Prelude.{List}
use Rattle.laws.specs.Member.{◌∈◌}

pub record Kind : Type 1 where
  pub Concept : Type 0
  pub State : Type 0
  pub Edge : Type 0
  -- the valid concepts and the declared states
  pub concepts : List Concept
  pub states : List State
  -- the concept that a child by an edge is known by; a concept has a child by an edge
  pub end : Edge → Concept
  pub child : Concept → Edge → Type 0
  -- a test step that passes at a concept; a role step down an edge; a role step back up it
  pub test : Concept → State → State → Type 0
  pub down : Edge → State → State → Type 0
  pub up : Edge → State → State → Type 0

-- rules lead from what is declared to what is declared
pub record Sane (𝓚 : Kind) : Type 0 where
  pub end-in : (B : 𝓚.Concept) (R : 𝓚.Edge) → B ∈ 𝓚.concepts → 𝓚.child B R → 𝓚.end R ∈ 𝓚.concepts
  pub test_in : (B : 𝓚.Concept) (s t : 𝓚.State) → 𝓚.test B s t → t ∈ 𝓚.states
  pub down-in : (R : 𝓚.Edge) (s t : 𝓚.State) → 𝓚.down R s t → t ∈ 𝓚.states
  pub up_in : (R : 𝓚.Edge) (s t : 𝓚.State) → 𝓚.up R s t → t ∈ 𝓚.states
