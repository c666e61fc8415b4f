-- Laws of what a program writes of an input, whatever it says of a sound file.
use Rattle.std.specs.Prelude.{ℕ, ◌+◌, ◌≤◌, ◌≡◌, ◌↔◌, List, Some, length, take, drop}
use Rattle.std.specs.Io.KnownBytes.{Appends}
use Rattle.frames.specs.declared.Frame.{Frame}
use Rattle.reading.specs.declared.Refusal.{Refusal}
use Rattle.reading.specs.Refusal.{refusal_number}
use Rattle.reading.specs.Reading.{Taken}
use Rattle.shell.specs.Faults.{fault_line}
use Rattle.shell.specs.Reports.{OneOf}
use Rattle.shell.specs.Writes.{IsSound, IsFaulty, Saying, WritesOf}

-- a faulty input's first faulty line has a number of at most 138,788
abbrev pub FaultsNear : Type 0
FaultsNear = (input : List ℕ) (before : List Frame) (r : Refusal) → IsFaulty input before r
    → length before + 1 ≤ 138788

module _ (Says : Saying) where
  -- a faulty input writes the line of that number, from 1, and of the number that refuses the line
  abbrev pub FaultWritten : Type 0
  FaultWritten = (input : List ℕ) (before : List Frame) (r : Refusal) → IsFaulty input before r
      → (text : List ℕ)
      → WritesOf Says input text ↔ (text ≡ fault_line (length before + 1) (refusal_number r))

  -- and a sound one what is said of its frames
  abbrev pub SaidWritten : Type 0
  SaidWritten = (input : List ℕ) (fs : List Frame) → IsSound input fs
      → (text : List ℕ) → WritesOf Says input text ↔ Says fs text

  -- the first 3,239,020 bytes of an input, or more of them, write what the whole writes
  abbrev pub StartWrites : Type 0
  StartWrites = (input : List ℕ) (n : ℕ) → 3239020 ≤ n → (text : List ℕ)
      → WritesOf Says (take n input) text ↔ WritesOf Says input text

  -- of frames that were taken one after the other one text is said
  abbrev pub SaysOnce : Type 0
  SaysOnce = (fs : List Frame) → Taken fs → (text out : List ℕ) → Says fs text → Says fs out
      → text ≡ out

  -- and then an input writes one text
  abbrev pub WritesOnce : Type 0
  WritesOnce = SaysOnce → (input text out : List ℕ)
      → WritesOf Says input text → WritesOf Says input out → text ≡ out

  -- a text holds n characters of what is written, and then what it held
  pub record IsWritten (input old : List ℕ) (n : ℕ) (text : List ℕ) : Type 0 where
    pub within : n ≤ length text
    pub written : WritesOf Says input (take n text)
    pub rest : drop n text ≡ drop n old

  -- two outcomes of writing in memory are equal: how much is told, and every byte of the text
  abbrev pub WrittenOnce : Type 0
  WrittenOnce = SaysOnce → (input old text out : List ℕ) (n m : ℕ)
      → IsWritten input old n text → IsWritten input old m out → (n ≡ m) × (text ≡ out)

  -- a sink whose bytes are known holds one thing afterwards
  abbrev pub ServedOnce : Type 0
  ServedOnce = SaysOnce → (input old held other : List ℕ)
      → OneOf (WritesOf Says input) (Appends (Some old) (Some held))
      → OneOf (WritesOf Says input) (Appends (Some old) (Some other)) → held ≡ other
