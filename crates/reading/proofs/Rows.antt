-- A row of marks judged: 13, 12 and 14 are those of its automaton's making, and of its states and its start.
use Rattle.std.specs.Prelude.{ℕ, ◌≡◌, ◌≤◌, ◌↔◌, ⊤, List, [], ◌∷◌, Result, Ok, Err, IsErrAnd, IfErr}
use Rattle.std.proofs.Common.{refl, arith}
use Rattle.laws.specs.First.{FirstOf, ◌else◌, fails, holds}
use Rattle.kinds.specs.declared.Counts.{Counts}
use Rattle.kinds.specs.Kinds.{most_states}
use Rattle.expression.specs.declared.listed.Refusal as expression
use Rattle.expression.specs.declared.listed.Refusal.TheVariants as unread
use Rattle.expression.specs.Depth as depth
use Rattle.expression.specs.Listed.{Listed}
use Rattle.expression.specs.Answer.{IsNoExpression, HasMarks, HasTooManyMarks, HasAutomaton, IsAutomatonOf}
use Rattle.expression.proofs.Clauses.{one-count}
use Rattle.reading.specs.declared.Refusal.{Refusal}
use Rattle.reading.specs.declared.Refusal.TheVariants.{NoExpression, TooDeep, AnotherShape}
use Rattle.reading.specs.Refusal.{refusal_of_row}
use Rattle.reading.specs.Turns.{RowJudged, IsShapedBy}

-- a frame of another kind passes all three tests
pub passes : FirstOf {A = Result (Unit {0}) Refusal} (⊤ else Err TooDeep ∷ ⊤ else Err NoExpression ∷ ⊤ else Err AnotherShape ∷ []) (λ r. r ≡ Ok tt) (Ok tt)
passes = holds tt (holds tt (holds tt refl))

module _ (row : List ℕ) (counts : Counts) where
  module _ {r : Result Listed expression.Refusal} (deep : (r ≡ Err unread.TooDeep) ↔ depth.TooDeep row) (none : (r ≡ Err unread.NoExpression) ↔ IsNoExpression row)
      (many : (n : ℕ) → (r ≡ Err (unread.TooManyMarks n)) ↔ HasTooManyMarks row n) (few : counts.states ≤ most_states) where
    refused : (u : expression.Refusal) → r ≡ Err u → RowJudged counts row (Err (refusal_of_row u))
    refused unread.TooDeep e = fails (λ shallow. shallow (deep.0 e))
    refused unread.NoExpression e =
        let x = none.0 e in
        holds x.shallow (fails (λ w. let h = w.1 in x.none 8 h.tree w.0 h.is.reads))
    refused (unread.TooManyMarks n) e =
        let x = (many n).0 e in
        holds x.marks.shallow (holds (n, x.marks) (fails (λ v. let g = one-count v.1 x.marks in omega (arith, v.2, g, x.more))))

    -- a row that has no automaton, with why as its refusal
    pub row-refused : {A : Type 0} {u : expression.Refusal} (q : Result A Refusal) → r ≡ Err u → IsErrAnd q (λ e. e ≡ refusal_of_row u)
        → IfErr q (λ e. RowJudged counts row (Err e))
    row-refused {u} (Ok x) e h = absurd h
    row-refused {u} (Err x) e h = rw h (refused u e)

  module _ {a : Listed} (x : IsAutomatonOf row a) (h : HasAutomaton row) where
    has-marks : HasMarks row x.marks
    has-marks = record { shallow = h.marks.shallow; tree = x.tree; is = x.is }

    pub row-misshapen : (IsShapedBy counts a → ⊥) → RowJudged counts row (Err AnotherShape)
    row-misshapen not-so =
        holds has-marks.shallow (holds (x.marks, has-marks)
        (fails (λ v. let g = one-count v.1 has-marks in not-so (record { states = omega (arith, v.2, g, x.states); start = v.3 }))))

    pub row-shaped : IsShapedBy counts a → RowJudged counts row (Ok tt)
    row-shaped k =
        holds has-marks.shallow (holds (x.marks, has-marks) (holds (x.marks, has-marks, omega (arith, k.states, x.states), k.start) refl))
