-- Lines that are next in an input, of which it may be known what is left: taken one after the other,
-- up to one that another stands in place of.
use Rattle.std.specs.Prelude.{ℕ, ◌+◌, ◌^◌, ◌<◌, ◌≡◌, ◌≢◌, ⊤, List, ◌∷◌, ◌++◌, Option, None, Some, length, slice_get}
use Rattle.streams.specs.Lines.{lines}
use Rattle.streams.specs.Input.{Input, left_of}

-- the known bytes begin with these lines, and lose them with their ends
abbrev pub TakesLines : Option (List ℕ) → Option (List ℕ) → List (List ℕ) → Type 0
TakesLines None new ls = ⊤
TakesLines (Some xs) None ls = ⊥
TakesLines (Some xs) (Some ys) ls = lines xs ≡ ls ++ lines ys

-- the first line of the known bytes, if they have one, is another
abbrev pub BeginsOther : Option (List ℕ) → List ℕ → Type 0
BeginsOther None line = ⊤
BeginsOther (Some xs) line = slice_get (lines xs) 0 ≢ Some line

-- from one input to another these lines are taken, and counted, as far as 64 bits go
pub record TakesAll (old new : Input) (count count' : ℕ) (ls : List (List ℕ)) : Type 0 where
  pub taken : TakesLines (left_of old) (left_of new) ls
  pub counted : count + length ls < 2 ^ 64 → count' ≡ count + length ls

-- some of these lines are taken, and in place of the one after them stands another, or none
pub record StopsAmong (old new : Input) (count count' : ℕ) (ls : List (List ℕ)) : Type 0 where
  pub right : List (List ℕ)
  pub line : List ℕ
  pub rest : List (List ℕ)
  pub parts : ls ≡ right ++ line ∷ rest
  pub taken : TakesAll old new count count' right
  pub other : BeginsOther (left_of new) line
