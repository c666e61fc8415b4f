-- What making the tables of a question from its marks gives.
use Rattle.std.specs.Prelude.{◌≡◌, ◌≢◌, List, ℕ, ◌*◌, ◌≤◌, [], ◌∷◌, length, take, drop}
use Rattle.laws.specs.First.{FirstOf, ◌else◌}
use Rattle.meaning.specs.Lent.{step_width, most_steps, final_width, most_finals}
use Rattle.expression.specs.Depth.{TooDeep}
use Rattle.expression.specs.Answer.{HasMarks, HasAutomaton, IsAutomatonOf}
use Rattle.expression.specs.Listed.{Listed}
use Rattle.expression.specs.declared.listed.Refusal.{Refusal}
use Rattle.expression.specs.declared.listed.Refusal.TheVariants as refusal

-- why a row of marks has no tables
abbrev pub number_of : Refusal → ℕ
number_of refusal.NoExpression = 12
number_of refusal.TooDeep = 13
number_of (refusal.TooManyMarks n) = 14

-- both rows have room for the most records of their table
pub record HasRoom (steps finals : ℕ) : Type 0 where
  pub steps-fit : step_width * most_steps ≤ steps
  pub finals-fit : final_width * most_finals ≤ finals

-- the number given: 5 where a row is too short, then 13, 12 and 14, and else 0
module _ (row : List ℕ) (steps finals : ℕ) where
  abbrev pub Makes : ℕ → Type 0
  Makes =
      FirstOf (HasRoom steps finals else 5
      ∷ (TooDeep row → ⊥) else 13
      ∷ ((n : ℕ) × HasMarks row n) else 12
      ∷ HasAutomaton row else 14 ∷ [])
      (λ number. number ≡ 0)

-- the tables that the numbers returned describe: the states, and the used front of each row
abbrev pub told_tables : (states steps_used : ℕ) (steps : List ℕ) (finals_used : ℕ)
    (finals : List ℕ) → Listed
told_tables states steps_used steps finals_used finals = record {
  states = states;
  steps = take steps_used steps;
  finals = take finals_used finals;
}

-- what is left of what was lent: both rows, how many states, and how many numbers of each row
pub record Rows : Type 0 where
  pub steps : List ℕ
  pub finals : List ℕ
  pub states : ℕ
  pub steps_used : ℕ
  pub finals_used : ℕ

abbrev pub told_in : Rows → Listed
told_in r = told_tables r.states r.steps_used r.steps r.finals_used r.finals

-- all that the call gives and leaves
pub record TellsTables (row : List ℕ) (old : Rows) (number : ℕ) (new : Rows) : Type 0 where
  pub number_is : Makes row (length old.steps) (length old.finals) number
  pub made : number ≡ 0 → IsAutomatonOf row (told_in new)
  pub steps_count : number ≡ 0 → new.steps_used ≡ length (told_in new).steps
  pub finals_count : number ≡ 0 → new.finals_used ≡ length (told_in new).finals
  pub steps_rest : drop new.steps_used new.steps ≡ drop new.steps_used old.steps
  pub finals_rest : drop new.finals_used new.finals ≡ drop new.finals_used old.finals
  pub kept : number ≢ 0 → new ≡ old
