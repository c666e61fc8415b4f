-- An input taken in: what comes back, and what the file then holds.
use Rattle.std.specs.Prelude.{ℕ, ◌≡◌, List, Result}
use Rattle.streams.specs.Lines.{lines}
use Rattle.reading.specs.declared.Fault.{Fault}
use Rattle.reading.specs.declared.File.{File}
use Rattle.reading.specs.File.{file_of}
use Rattle.reading.specs.Reading.{Verdict, frames_of}
use Rattle.reading.specs.Reads.{ReadsToList, told_of}
use Rattle.intake.specs.Verdicts.{Verdicts}

-- what is told and held of some lines is so of what they are found to be
pub record TakesIn (ls : List (List ℕ)) (found : Result (Unit {0}) Fault) (file : File) : Type 0
  where
    pub verdict : Verdict
    pub is : Verdicts ls verdict
    pub told : found ≡ told_of verdict
    pub kept : file ≡ file_of (frames_of verdict)

-- so it is of a whole input, where its list is left, and the lines before it are held
abbrev pub TakesList : File → List ℕ → Result (Unit {0}) Fault → File → Type 0
TakesList old left found new =
    (input : List ℕ) → ReadsToList input left old → TakesIn (lines input) found new
