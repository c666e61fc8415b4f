-- Numbers that are put into a row, the first at its front.
use Rattle.std.specs.Prelude.{◌≡◌, List, ℕ, ◌+◌, ◌≤◌, ◌++◌, length, take, drop}

-- so many numbers stand at the front of a row, and its rest is as it was
pub record IsFront (numbers : List ℕ) (count : ℕ) (old new : List ℕ) : Type 0 where
  pub many : count ≡ length numbers
  pub front : take count new ≡ numbers
  pub rest : drop count new ≡ drop count old

-- numbers are put into a row, after so many that are told; where these are in the row, all are
pub record Puts (numbers : List ℕ) (old : List ℕ) (before : ℕ) (new : List ℕ) (after : ℕ) : Type 0
  where
    pub more : after ≡ before + length numbers
    pub room : before ≤ length old → after ≤ length old
    pub put : before ≤ length old → new ≡ take before old ++ (numbers ++ drop after old)
