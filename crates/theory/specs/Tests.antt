-- A rules' kind as tests that compute.
use Rattle.std.specs.Prelude.{◌↔◌, Bool, List, IsTrue}
use Rattle.laws.specs.Member.{◌∈◌}
use Rattle.laws.specs.Same.{Same}
use Rattle.theory.specs.Kind.{Kind}

-- the same rules, as tests
pub record Tests (𝓚 : Kind) : Type 0 where
  pub edges : List 𝓚.Edge
  pub same-state : 𝓚.State → 𝓚.State → Bool
  pub same-concept : 𝓚.Concept → 𝓚.Concept → Bool
  pub has-child : 𝓚.Concept → 𝓚.Edge → Bool
  pub has-test : 𝓚.Concept → 𝓚.State → 𝓚.State → Bool
  pub has-down : 𝓚.Edge → 𝓚.State → 𝓚.State → Bool
  pub has-up : 𝓚.Edge → 𝓚.State → 𝓚.State → Bool

-- the tests say what the rules say, of what is declared
pub record AreTestsOf (𝓚 : Kind) (𝓣 : Tests 𝓚) : Type 0 where
  pub states-same : Same 𝓣.same-state
  pub concepts-same : Same 𝓣.same-concept
  pub edge_in : (B : 𝓚.Concept) (R : 𝓚.Edge) → B ∈ 𝓚.concepts → 𝓚.child B R → R ∈ 𝓣.edges
  pub child : (B : 𝓚.Concept) (R : 𝓚.Edge) → B ∈ 𝓚.concepts
      → IsTrue (𝓣.has-child B R) ↔ 𝓚.child B R
  pub test : (B : 𝓚.Concept) (s t : 𝓚.State) → B ∈ 𝓚.concepts
      → IsTrue (𝓣.has-test B s t) ↔ 𝓚.test B s t
  pub down : (R : 𝓚.Edge) (s t : 𝓚.State) → R ∈ 𝓣.edges
      → IsTrue (𝓣.has-down R s t) ↔ 𝓚.down R s t
  pub up : (R : 𝓚.Edge) (s t : 𝓚.State) → R ∈ 𝓣.edges
      → IsTrue (𝓣.has-up R s t) ↔ 𝓚.up R s t
