-- The way on from an element into the tree below it, to a state in which a path may end, for any
-- rules' kind; and the walk over roots that leads out so.
use Rattle.std.specs.Prelude.{◌⊎◌}
use Rattle.theory.specs.Kind.{Kind}
use Rattle.theory.specs.Run.{Run}
use Rattle.theory.specs.Tree.{Loop, Stride}

module _ (𝓚 : Kind) where
  open 𝓚 use {Concept, State, Edge, end, child, down}

  -- from which states and concepts it is there, by some loops: the smallest set that has each final
  -- state, and leads on along a loop, and down to a child
  pub data Onward (loop : State → State → Concept → Type 0) (final : State → Type 0)
      : State → Concept → Type 0 where
    ends : {s : State} {B : Concept} → final s → Onward loop final s B
    around : {s t : State} {B : Concept} → loop s t B → Onward loop final t B
        → Onward loop final s B
    deeper : {s t : State} {B : Concept} {R : Edge} → child B R → down R s t
        → Onward loop final t (end R) → Onward loop final s B

  -- by the loops at a concept
  abbrev pub LeadsOn : (State → Type 0) → State → Concept → Type 0
  LeadsOn = Onward (λ s t B. Loop 𝓚 B s t)

  -- the walk over roots leads to a final state, or to one from which the way leads on in the tree
  -- below the root
  pub record WalksOut {I : Type 0} (has : I → Concept → Type 0)
      (near : I → State → I → State → Type 0) (final : State → Type 0)
      (a : I) (s : State) : Type 0 where
    pub to : I
    pub last : State
    pub walk : Run (Stride 𝓚 has near) a s to last
    pub out : final last ⊎ ((B : Concept) × has to B × LeadsOn final last B)
