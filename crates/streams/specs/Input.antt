-- An input of which some bytes are held, and the rest is still to be read.
use Rattle.std.specs.Prelude.{ℕ, ◌≤◌, ◌⊎◌, List, Option, length}
use Rattle.std.specs.Io.KnownBytes.{IsAtEnd, prepend_known}

-- the bytes that are held, and the bytes behind them, where those are known
pub record Input : Type 0 where
  pub held : List ℕ
  pub behind : Option (List ℕ)

-- all the bytes that are left of an input, where they are known
abbrev pub left_of : Input → Option (List ℕ)
left_of input = prepend_known input.held input.behind

-- so many bytes are held, or none is behind them
abbrev pub IsFilled : ℕ → List ℕ → Option (List ℕ) → Type 0
IsFilled count held behind = (count ≤ length held) ⊎ IsAtEnd behind
