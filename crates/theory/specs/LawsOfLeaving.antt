-- Laws of the way on and of the walk that leads out, for any rules' kind.
use Rattle.std.specs.Prelude.{◌↔◌}
use Rattle.theory.specs.Kind.{Kind}
use Rattle.theory.specs.Run.{Run}
use Rattle.theory.specs.Tree.{Elem, root, Loop, Move, Tree}
use Rattle.theory.specs.Grows.{Ground}
use Rattle.theory.specs.Onward.{LeadsOn, WalksOut}

-- what the question with one named end runs over: a rules' kind, roots, and where paths may end
pub record Leaving : Type 1 where
  pub kind : Kind
  pub ground : Ground kind
  pub final : kind.State → Type 0

module _ (𝓛 : Leaving) where
  open 𝓛 use {kind, ground, final}

  -- the way leads on exactly when a path leads, in the tree grown from its concept, from the root to
  -- any element whatever in a final state
  abbrev pub OnwardIsPath : Type 0
  OnwardIsPath = (s : kind.State) (B : kind.Concept)
      → LeadsOn kind final s B
      ↔ ((x : Elem kind.Concept kind.Edge) × (t : kind.State) × final t
      × Tree kind (root B) s x t)

  -- and the walk over roots leads out exactly when a path leads from its root to any element whatever
  -- in a final state
  abbrev pub OutIsPath : Type 0
  OutIsPath = (a : ground.Root) (s : kind.State)
      → WalksOut kind ground.has ground.near final a s
      ↔ ((x : Elem ground.Root kind.Edge) × (t : kind.State) × final t
      × Run (Move kind ground.has ground.near) (root a) s x t)

-- a set of states and concepts that has each final state, and with a loop or a step down to a child
-- what leads there
pub record KeepsOnward (𝓛 : Leaving) (holds : 𝓛.kind.State → 𝓛.kind.Concept → Type 0) : Type 0 where
  pub ends : (s : 𝓛.kind.State) (B : 𝓛.kind.Concept) → 𝓛.final s → holds s B
  pub around : (s t : 𝓛.kind.State) (B : 𝓛.kind.Concept) → Loop 𝓛.kind B s t → holds t B → holds s B
  pub deeper : (s t : 𝓛.kind.State) (B : 𝓛.kind.Concept) (R : 𝓛.kind.Edge) → 𝓛.kind.child B R
      → 𝓛.kind.down R s t → holds t (𝓛.kind.end R) → holds s B

-- each such set has all from which the way leads on
abbrev pub OnwardLeast : (𝓛 : Leaving) → (𝓛.kind.State → 𝓛.kind.Concept → Type 0) → Type 0
OnwardLeast 𝓛 holds = KeepsOnward 𝓛 holds → (s : 𝓛.kind.State) (B : 𝓛.kind.Concept)
    → LeadsOn 𝓛.kind 𝓛.final s B → holds s B
