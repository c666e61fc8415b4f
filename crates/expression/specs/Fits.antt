-- What a call asks of tables of steps and final states, and when those of an automaton pass.
use Rattle.std.specs.Prelude.{◌≡◌, List, ℕ, ◌<◌, ◌≤◌}
use Rattle.kinds.specs.declared.Counts.{Counts}
use Rattle.kinds.specs.Kinds.{StateDeclared}
use Rattle.laws.specs.Member.{◌∈◌}
use Rattle.meaning.specs.Collection.{Each, LetterDeclared, StepDeclared}
use Rattle.meaning.specs.Lent.{Whole, records, step_kind, step_width, most_steps, final_width, most_finals}
use Rattle.expression.specs.Marks.{opening, mark_letter}
use Rattle.expression.specs.Listed.{Listed, steps_of, finals_of}

-- whole records, not too many of them, and each step's kind is 0 or 1
pub record FitsTables (a : Listed) : Type 0 where
  pub steps : Whole step_width most_steps a.steps
  pub finals : Whole final_width most_finals a.finals
  pub step_kinds : Each (records step_width step_kind a.steps) (λ k. k ≤ 1)

-- every role mark and test mark of the row reads what is declared
pub record MarksDeclared (c : Counts) (row : List ℕ) : Type 0 where
  pub each : (b : ℕ) → b ∈ row → b < opening → LetterDeclared c (mark_letter b)

-- every number in both tables is declared
pub record RecordsDeclared (c : Counts) (a : Listed) : Type 0 where
  pub steps : Each (steps_of a) (StepDeclared c)
  pub finals : Each (finals_of a) (StateDeclared c)

-- it is where the states are those of the automaton and the row's marks are declared
abbrev pub NeedsMarks : List ℕ → Listed → Type 0
NeedsMarks row a =
    (c : Counts) → c.states ≡ a.states → MarksDeclared c row → RecordsDeclared c a
