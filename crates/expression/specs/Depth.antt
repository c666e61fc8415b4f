-- Brackets too deep: read from the left, opened less closed brackets pass 8. What else is wrong in
-- the row does not count; a closing bracket counts down even where none is open.
use Rattle.std.specs.Prelude.{List, ℕ, ◌+◌, ◌<◌, ◌≤◌, ◌==◌, length, take}
use Rattle.laws.specs.Count.{count}
use Rattle.expression.specs.Marks.{opening, closing}

-- brackets stand within brackets at most so deep
abbrev pub most_depth : ℕ
most_depth = 8

-- how often a mark stands in a row
abbrev pub times : ℕ → List ℕ → ℕ
times mark row = count row (λ b. b == mark)

-- of the first i marks, those that open pass those that close by more than that
pub record PassesAt (row : List ℕ) (i : ℕ) : Type 0 where
  pub over : times closing (take i row) + most_depth < times opening (take i row)

-- some of the first marks of the row do
pub record TooDeep (row : List ℕ) : Type 0 where
  pub place : ℕ
  pub within : place ≤ length row
  pub passes : PassesAt row place
