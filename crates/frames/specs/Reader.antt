-- What a reader has read of its line, byte by byte.
use Rattle.std.specs.Prelude.{ℕ, ◌≡◌, ◌+◌, ◌*◌, ◌<◌, ◌↔◌}
use Rattle.frames.specs.Digits.{bytes}
use Rattle.frames.specs.Pairs.{Digits}
use Rattle.frames.specs.declared.reader.Reader.{Reader}

-- what was gathered is below 16 exactly where all characters that were read are digits
pub record Gathered (r : Reader) : Type 0 where
  pub digits : (r.wrong < 16) ↔ Digits r.line.now (2 * r.at)

-- a reader that has taken a byte is at its line's next
pub record Advanced (old new : Reader) : Type 0 where
  pub line : new.line ≡ old.line
  pub at : new.at ≡ old.at + 1
  pub gathered : Gathered new

-- a reader at the byte k of its line
pub record IsAt (k : ℕ) (r : Reader) : Type 0 where
  pub at : r.at ≡ k
  pub gathered : Gathered r

-- a reader that has taken all bytes that were left
pub record ReadsWhole (old new : Reader) : Type 0 where
  pub line : new.line ≡ old.line
  pub at : new.at ≡ bytes old.line.now
  pub gathered : Gathered new
