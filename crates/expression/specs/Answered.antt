-- The one answer to each row of marks.
use Rattle.std.specs.Prelude.{List, ℕ, Result, Ok, Err}
use Rattle.expression.specs.Depth.{TooDeep}
use Rattle.expression.specs.Listed.{Listed}
use Rattle.expression.specs.Answer.{IsNoExpression, HasTooManyMarks, HasAutomaton, IsAutomatonOf}
use Rattle.expression.specs.declared.listed.Refusal.{Refusal}
use Rattle.expression.specs.declared.listed.Refusal.TheVariants as refusal

pub data Answered (row : List ℕ) : Result Listed Refusal → Type 0 where
  too_deep : TooDeep row → Answered row (Err refusal.TooDeep)
  no_expression : IsNoExpression row → Answered row (Err refusal.NoExpression)
  too_many : (n : ℕ) → HasTooManyMarks row n → Answered row (Err (refusal.TooManyMarks n))
  answered : (a : Listed) → HasAutomaton row → IsAutomatonOf row a → Answered row (Ok a)
