-- The line of an entry of a list, and the lines of those that a round adds.
use Rattle.std.specs.Prelude.{ℕ, List, map}
use Rattle.kinds.specs.declared.State.{State}
use Rattle.kinds.specs.declared.Concept.{Concept}
use Rattle.frames.specs.Written.{line_of}
use Rattle.reading.specs.Tables.{Entry, frame_of}

abbrev pub entry_line : Entry → List ℕ
entry_line e = line_of (frame_of e)

-- the lines of the entries of a round with these marks
abbrev pub round_lines : ℕ → List (State × State × Concept) → List (List ℕ)
round_lines n marks = map (λ x. entry_line (n, x.0, x.1, x.2)) marks
