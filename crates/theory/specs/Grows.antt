-- Growth, for any rules' kind: a kind that yields more.
use Rattle.std.specs.Prelude.{◌≡◌}
use Rattle.theory.specs.Kind.{Kind}

-- 𝓛 yields, of the same concepts, states and edges under another name, all that 𝓚 yields
pub record Grows (𝓚 𝓛 : Kind) : Type 0 where
  pub con : 𝓚.Concept → 𝓛.Concept
  pub state : 𝓚.State → 𝓛.State
  pub edge : 𝓚.Edge → 𝓛.Edge
  pub ends : (R : 𝓚.Edge) → con (𝓚.end R) ≡ 𝓛.end (edge R)
  pub children : (B : 𝓚.Concept) (R : 𝓚.Edge) → 𝓚.child B R → 𝓛.child (con B) (edge R)
  pub tests : (B : 𝓚.Concept) (s t : 𝓚.State) → 𝓚.test B s t → 𝓛.test (con B) (state s) (state t)
  pub downs : (R : 𝓚.Edge) (s t : 𝓚.State) → 𝓚.down R s t → 𝓛.down (edge R) (state s) (state t)
  pub ups : (R : 𝓚.Edge) (s t : 𝓚.State) → 𝓚.up R s t → 𝓛.up (edge R) (state s) (state t)

-- what paths of a kind run over: roots, the concepts that a root has, the role steps along edges
-- between roots
pub record Ground (𝓚 : Kind) : Type 1 where
  pub Root : Type 0
  pub has : Root → 𝓚.Concept → Type 0
  pub near : Root → 𝓚.State → Root → 𝓚.State → Type 0

-- a kind and one that yields more, the ground of the first within that of the second
pub record Growing : Type 1 where
  pub less : Kind
  pub more : Kind
  pub grows : Grows less more
  pub before : Ground less
  pub after : Ground more
  pub root : before.Root → after.Root
  pub has-more : (a : before.Root) (B : less.Concept) → before.has a B
      → after.has (root a) (grows.con B)
  pub nearer : (a b : before.Root) (s t : less.State) → before.near a s b t
      → after.near (root a) (grows.state s) (root b) (grows.state t)
