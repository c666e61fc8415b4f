-- What comes of the next line of an input, of which it may be known what is left.
use Rattle.std.specs.Prelude.{ℕ, ◌<◌, List, Option, Ok, Err}
use Rattle.std.specs.Io.KnownBytes.{IsAtEnd}
use Rattle.streams.specs.Lines.{TakesLine, BeginsLonger}
use Rattle.streams.specs.declared.TheConstants.{LINE}
use Rattle.reading.specs.declared.File.{File}
use Rattle.reading.specs.declared.Progress.{Progress}
use Rattle.reading.specs.declared.Progress.TheVariants as progress
use Rattle.reading.specs.declared.Refusal.{Refusal}
use Rattle.reading.specs.declared.Refusal.TheVariants.{BadLine}
use Rattle.reading.specs.Room.{room_left}
use Rattle.reading.specs.Turns as turns

-- it is taken, and there is less room; or it is refused, or too long, or there is none, and what is
-- held stays
pub data Proceeds (left next : Option (List ℕ)) (old : File) : Progress → File → Type 0 where
  taken : (line : List ℕ) (new : File) → TakesLine left next line
      → turns.TakesLine old line (Ok tt) new → room_left new < room_left old
      → Proceeds left next old progress.Taken new
  refused : (line : List ℕ) (r : Refusal) → TakesLine left next line
      → turns.TakesLine old line (Err r) old → Proceeds left next old (progress.Refused r) old
  too_long : BeginsLonger left LINE → Proceeds left next old (progress.Refused BadLine) old
  ended : IsAtEnd left → Proceeds left next old progress.Ended old
