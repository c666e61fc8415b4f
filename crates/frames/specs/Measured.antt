-- A line whose length is tested before its characters are looked at.
use Rattle.std.specs.Prelude.{ℕ, ◌≡◌, ◌<◌, ◌≤◌, ◌%◌, List, length}
use Rattle.frames.specs.Digits.{line_length}

-- what `LineOk` asks of a line's length
pub record IsMeasured (l : List ℕ) : Type 0 where
  pub some : 0 < length l
  pub short : length l ≤ line_length l
  pub even : length l % 2 ≡ 0
