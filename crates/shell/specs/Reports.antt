-- What is put to a sink, or into memory, of what was found.
use Rattle.std.specs.Prelude.{ℕ, ◌≡◌, List, Result, Ok, Err}
use Rattle.frames.specs.declared.Frame.{Frame}
use Rattle.reading.specs.declared.Fault.{Fault}
use Rattle.reading.specs.declared.File.{File}
use Rattle.reading.specs.File.{file_of}
use Rattle.reading.specs.Reading.{Taken}
use Rattle.reading.specs.Refusal.{refusal_number}
use Rattle.shell.specs.Faults.{fault_line}
use Rattle.shell.specs.Writes.{Saying}

-- one of some texts, and P holds of it
pub record OneOf (Texts P : List ℕ → Type 0) : Type 0 where
  pub text : List ℕ
  pub is : Texts text
  pub so : P text

-- P holds of one of the texts that are said of a file, whatever frames it holds
pub record Tells (Says : Saying) (file : File) (P : List ℕ → Type 0) : Type 0 where
  pub by : (fs : List Frame) → Taken fs → file ≡ file_of fs → OneOf (Says fs) P

-- P holds of what is put for what was found: such a text, or the line of the fault
abbrev pub TellsFound : Saying → Result (Unit {0}) Fault → File → (List ℕ → Type 0) → Type 0
TellsFound Says (Ok u) file P = Tells Says file P
TellsFound Says (Err fault) file P = P (fault_line fault.line (refusal_number fault.refusal))
