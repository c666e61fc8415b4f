-- What comes next of an input, of which it may be known what is left.
use Rattle.std.specs.Prelude.{◌≤◌, ◌⊎◌, ℕ, List, [], ◌∷◌, ◌++◌, Option, length}
use Rattle.std.specs.Io.KnownBytes.{Keeps, Consumes, IsAtEnd}
use Rattle.streams.specs.declared.TheConstants.{LINE}
use Rattle.streams.specs.declared.lines.Next.{Next}
use Rattle.streams.specs.declared.lines.Next.TheVariants.{Line, TooLong, End}
use Rattle.streams.specs.Lines.{TakesLine, BeginsLonger}

-- a line is taken; one that is too long stays; at the end nothing is left
abbrev pub Gives : Option (List ℕ) → Option (List ℕ) → Next → Type 0
Gives old new (Line line) = TakesLine old new line × (length line ≤ LINE)
Gives old new TooLong = Keeps old new × BeginsLonger old LINE
Gives old new End = Keeps old new × IsAtEnd old

-- of the known bytes a line is consumed with its end, or, where they are at their end, without one
abbrev pub ConsumesLine : Option (List ℕ) → Option (List ℕ) → List ℕ → Type 0
ConsumesLine old new line =
    Consumes old new (line ++ 0x0A ∷ []) ⊎ (Consumes old new line × IsAtEnd new)

abbrev pub ConsumesNext : Option (List ℕ) → Option (List ℕ) → Next → Type 0
ConsumesNext old new (Line line) = ConsumesLine old new line
ConsumesNext old new TooLong = Keeps old new
ConsumesNext old new End = Keeps old new
