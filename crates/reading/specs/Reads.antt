-- Reading some lines into a file: what comes back and what the file then holds.
use Rattle.std.specs.Prelude.{ℕ, ◌≡◌, ◌==◌, ◌+◌, ◌-◌, ◌^◌, ⊤, List, [], Option, None, Some, Result, Ok, Err, length, min, slice_get, if◌then◌else◌}
use Rattle.streams.specs.Lines.{lines}
use Rattle.frames.specs.declared.Frame.{Frame}
use Rattle.reading.specs.declared.Behind.{Behind}
use Rattle.reading.specs.declared.Behind.TheVariants as behind
use Rattle.reading.specs.declared.Fault.{Fault}
use Rattle.reading.specs.declared.File.{File}
use Rattle.reading.specs.declared.Refusal.{Refusal}
use Rattle.reading.specs.declared.Refusal.TheVariants.{OutOfPlace}
use Rattle.reading.specs.File.{file_of, HoldsOpen}
use Rattle.reading.specs.Judged.{IsOpen}
use Rattle.reading.specs.Reading.{Verdict, faulty, sound, frames_of, Reading, Taken}

-- what is told of a file: nothing where it is sound, or its first faulty line, from 1, and why it
-- is refused
abbrev pub told_of : Verdict → Result (Unit {0}) Fault
told_of (sound fs) = Ok tt
told_of (faulty before r) = Err (record { line = length before + 1; refusal = r })

-- what is told and held of some lines that are read after some frames is so of what they are found
-- to be
pub record ReadsAfter (before : List Frame)
    (ls : List (List ℕ)) (found : Result (Unit {0}) Fault) (file : File) : Type 0 where
  pub verdict : Verdict
  pub reading : Reading before ls verdict
  pub told : found ≡ told_of verdict
  pub kept : file ≡ file_of (frames_of verdict)

-- and of a whole file
abbrev pub ReadsFile : List (List ℕ) → Result (Unit {0}) Fault → File → Type 0
ReadsFile = ReadsAfter []

-- and of lines that are read on into what is held, whatever frames it is held of
abbrev pub ReadsOn : File → List (List ℕ) → Result (Unit {0}) Fault → File → Type 0
ReadsOn old ls found new =
    (before : List Frame) → Taken before → old ≡ file_of before → ReadsAfter before ls found new

-- the line after those that are held, refused, as far as 64 bits count lines
abbrev pub fault_after : File → Refusal → Fault
fault_after file r = record { line = min (file.lines + 1) (2 ^ 64 - 1); refusal = r }

-- what is told where no line is left; an empty file lacks its line 1
abbrev pub told_at_end : File → Result (Unit {0}) Fault
told_at_end file =
    if file.lines == 0 then Err (record { line = 1; refusal = OutOfPlace }) else Ok tt

-- what a file holds whatever was read into it
pub record IsRead (file : File) : Type 0 where
  pub frames : List Frame
  pub taken : Taken frames
  pub kept : file ≡ file_of frames

-- some bytes begin with the characters 1 and 0, as the line of an entry of a list does
pub record BeginsList (bytes : List ℕ) : Type 0 where
  pub first : slice_get bytes 0 ≡ Some 0x31
  pub second : slice_get bytes 1 ≡ Some 0x30

-- where a list is left, line 1 is held, and no entry of a list
abbrev pub IsOpenFor : Behind → File → Type 0
IsOpenFor behind.Nothing file = ⊤
IsOpenFor behind.List file = HoldsOpen file

-- of an input the lines before its list are read, and what the lines that are left are found to be
-- after their frames, the whole input is found to be
pub record ReadsToList (input left : List ℕ) (file : File) : Type 0 where
  pub frames : List Frame
  pub taken : Taken frames
  pub kept : file ≡ file_of frames
  pub is_open : IsOpen frames
  pub begins : BeginsList left
  pub onward : (v : Verdict) → Reading frames (lines left) v → Reading [] (lines input) v

-- what is found of an input where reading stops at its list: a fault, or nothing behind the lines
-- that were read, or the list; where it is known what stood and stands to be read
abbrev pub ReadsUpTo
    : Option (List ℕ) → Option (List ℕ) → Result Behind Fault → File → Type 0
ReadsUpTo None left found file = ⊤
ReadsUpTo (Some input) left (Err fault) file = ReadsFile (lines input) (Err fault) file
ReadsUpTo (Some input) left (Ok behind.Nothing) file =
    ReadsFile (lines input) (Ok tt) file × (file.listed ≡ 0)
ReadsUpTo (Some input) None (Ok behind.List) file = ⊥
ReadsUpTo (Some input) (Some left) (Ok behind.List) file = ReadsToList input left file
