-- An automaton as it is listed in tables: its steps by the state left and then by the state
-- entered, its final states rising.
use Rattle.std.specs.Prelude.{◌≡◌, ◌↔◌, List, [], ◌∷◌, map, flat_map, ℕ, ◌+◌, ◌*◌, ◌<◌}
use Rattle.kinds.specs.declared.State.{State}
use Rattle.kinds.specs.Kinds.{most_states, state}
use Rattle.laws.specs.Member.{◌∈◌}
use Rattle.meaning.specs.Collection.{Collection, Letter, role, test, Step, step}
use Rattle.meaning.specs.Lent.{records, step_width, step_at, final_width, final_at}
use Rattle.meaning.specs.Question.{Word}
use Rattle.expression.specs.Tree.{Tree, WordOf}
use Rattle.expression.specs.Automaton.{IsAutomaton}

-- how many states, and the numbers of both tables
pub record Listed : Type 0 where
  pub states : ℕ
  pub steps : List ℕ
  pub finals : List ℕ

-- the records of both tables
abbrev pub steps_of : Listed → List Step
steps_of a = records step_width step_at a.steps

abbrev pub finals_of : Listed → List State
finals_of a = records final_width final_at a.finals

-- the numbers of a record: 0 for a role or 1 for a test, the state left, what is read, the state
-- entered
abbrev pub step_numbers : Step → List ℕ
step_numbers (step s (role S) t) = 0 ∷ s.0 ∷ S.0 ∷ t.0 ∷ []
step_numbers (step s (test A) t) = 1 ∷ s.0 ∷ A.0 ∷ t.0 ∷ []

abbrev pub final_number : State → ℕ
final_number s = s.0

-- the place of a step in the order
abbrev pub step_rank : Step → ℕ
step_rank (step s l t) = most_states * s.0 + t.0

-- each comes before all that follow it, and none stands twice
pub data Rises {A : Type 0} (rank : A → ℕ) : List A → Type 0 where
  empty : Rises rank []
  begins : {x : A} {l : List A} → ((y : A) → y ∈ l → rank x < rank y) → Rises rank l
      → Rises rank (x ∷ l)

-- both tables are those of the expression, each record once, in their order, and nothing else
-- stands in them
pub record Lists (e : Tree) (a : Listed) : Type 0 where
  pub are : IsAutomaton e (steps_of a) (finals_of a)
  pub steps_rise : Rises step_rank (steps_of a)
  pub finals_rise : Rises final_number (finals_of a)
  pub steps_only : a.steps ≡ flat_map step_numbers (steps_of a)
  pub finals_only : a.finals ≡ map final_number (finals_of a)

-- a collection asks by these tables, from state 0
pub record AsksBy (𝓒 : Collection) (a : Listed) : Type 0 where
  pub start : 𝓒.counts.start ≡ state 0
  pub steps : 𝓒.steps ≡ steps_of a
  pub finals : 𝓒.finals ≡ finals_of a

-- the words of its question are exactly those of the expression
abbrev pub ReadsExactly : Tree → Listed → Type 0
ReadsExactly e a = (𝓒 : Collection) → AsksBy 𝓒 a → (w : List Letter) → Word 𝓒 w ↔ WordOf e w
