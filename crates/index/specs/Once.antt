-- What two ways to meet a contract have in common, where it is no equality of one value.
use Rattle.std.specs.Prelude.{List, ℕ}
use Rattle.kinds.specs.declared.Answer.{Answer}
use Rattle.kinds.specs.declared.Ask.{Ask}
use Rattle.meaning.specs.Lent.{Call}
use Rattle.meaning.specs.Outcome.{Outcome}
use Rattle.index.specs.Clauses.{SameOutcome}

-- the same answer stands at k in both
pub record SameAt (tells tells' : ℕ → Answer → Type 0) (k : ℕ) : Type 0 where
  pub answer : Answer
  pub one : tells k answer
  pub other : tells' k answer

-- two calls that differ only in what is asked, and have one answer, leave the same in both areas
abbrev pub AnswerFixesAreas : Type 0
AnswerFixesAreas =
    (c : Call) (ask : Ask) (r : Answer) (x y u v : List ℕ) → Outcome c r x y
    → Outcome (record c { ask = ask }) r u v → SameOutcome r x y r u v
