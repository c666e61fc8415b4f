-- What a program writes of a whole input, for any bytes (docs/RULES.md, section 8): the line of its
-- fault, or what the program says of a file that is sound.
use Rattle.std.specs.Prelude.{ℕ, ◌+◌, List, length}
use Rattle.streams.specs.Lines.{lines}
use Rattle.frames.specs.declared.Frame.{Frame}
use Rattle.reading.specs.declared.Refusal.{Refusal}
use Rattle.reading.specs.Refusal.{refusal_number}
use Rattle.reading.specs.Reading.{Verdict, faulty, sound}
use Rattle.intake.specs.Verdicts.{Verdicts}
use Rattle.shell.specs.Faults.{fault_line}

-- an input is sound, as these frames
abbrev pub IsSound : List ℕ → List Frame → Type 0
IsSound input fs = Verdicts (lines input) (sound fs)

-- the line after these frames is its faulty one
abbrev pub IsFaulty : List ℕ → List Frame → Refusal → Type 0
IsFaulty input before r = Verdicts (lines input) (faulty before r)

-- the texts that a program may write of frames that are sound
abbrev pub Saying : Type 1
Saying = List Frame → List ℕ → Type 0

-- what is written by a reading of the lines: the number of the faulty line, from 1, and the number
-- that refuses it; or what the program says of the frames
pub data WritesBy (Reads : List (List ℕ) → Verdict → Type 0) (Says : Saying)
    (input : List ℕ) : List ℕ → Type 0 where
  fault : (before : List Frame) (r : Refusal) → Reads (lines input) (faulty before r)
      → WritesBy Reads Says input (fault_line (length before + 1) (refusal_number r))
  said : (fs : List Frame) (out : List ℕ) → Reads (lines input) (sound fs) → Says fs out
      → WritesBy Reads Says input out

-- by the rules
abbrev pub WritesOf : Saying → List ℕ → List ℕ → Type 0
WritesOf = WritesBy Verdicts
