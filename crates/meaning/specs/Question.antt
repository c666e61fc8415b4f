-- The question (docs/RULES.md, section 5): paths with elements and states in step, the words they
-- spell, and when a pair is yes.
use Rattle.std.specs.Prelude.{List, [], ◌∷◌}
use Rattle.kinds.specs.declared.ConceptName.{ConceptName}
use Rattle.kinds.specs.declared.Individual.{Individual}
use Rattle.kinds.specs.declared.State.{State}
use Rattle.kinds.specs.declared.SignedRole.{SignedRole}
use Rattle.laws.specs.Member.{◌∈◌}
use Rattle.meaning.specs.Collection.{Collection, Letter, role, test, step, RoleStep, TestStep}
use Rattle.theory.specs.Tree.{root}
use Rattle.theory.specs.Run.{Run}
use Rattle.meaning.specs.Model.{Structure, canonical}

-- a path from x to y spells a word by the labels of its steps
pub data Spells (𝓢 : Structure) : 𝓢.Thing → List Letter → 𝓢.Thing → Type 0 where
  nothing : {x : 𝓢.Thing} → Spells 𝓢 x [] x
  by-role : {x y z : 𝓢.Thing} {S : SignedRole} {w : List Letter} → 𝓢.edge x S y → Spells 𝓢 y w z
      → Spells 𝓢 x (role S ∷ w) z
  by_name : {x z : 𝓢.Thing} {A : ConceptName} {w : List Letter} → 𝓢.name x A → Spells 𝓢 x w z
      → Spells 𝓢 x (test A ∷ w) z

module _ (𝓒 : Collection) where
  -- a role step moves along an edge with that signed role; a test step stays, at a thing that has
  -- that name
  pub data PathStep (𝓢 : Structure) : 𝓢.Thing → State → 𝓢.Thing → State → Type 0 where
    along-role : {x y : 𝓢.Thing} {s t : State} (S : SignedRole) → RoleStep 𝓒 s S t → 𝓢.edge x S y
        → PathStep 𝓢 x s y t
    at_name : {x : 𝓢.Thing} {s t : State} (A : ConceptName) → TestStep 𝓒 s A t → 𝓢.name x A
        → PathStep 𝓢 x s x t

  -- a path: things and states in step. The empty path counts
  abbrev pub PathIn : (𝓢 : Structure) → 𝓢.Thing → State → 𝓢.Thing → State → Type 0
  PathIn 𝓢 = Run (PathStep 𝓢)

  -- the pair (a, b) is yes when a path runs from (a, start state) to (b, some final state)
  abbrev pub Yes : Individual → Individual → Type 0
  Yes a b = (t : State) × (t ∈ 𝓒.finals) × PathIn (canonical 𝓒) (root a) 𝓒.counts.start (root b) t

  -- the automaton reads a word from s to t
  pub data Reads : State → List Letter → State → Type 0 where
    nothing : {s : State} → Reads s [] s
    letter : {s t u : State} {l : Letter} {w : List Letter} → step s l t ∈ 𝓒.steps → Reads t w u
        → Reads s (l ∷ w) u

  -- a word of the question
  abbrev pub Word : List Letter → Type 0
  Word w = (t : State) × (t ∈ 𝓒.finals) × Reads 𝓒.counts.start w t

  -- a path in the model from the first individual to the second spells a word of the question
  abbrev pub SpellsWord : Individual → Individual → Type 0
  SpellsWord a b = (w : List Letter) × Word w × Spells (canonical 𝓒) (root a) w (root b)
