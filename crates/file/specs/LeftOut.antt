-- An input without the list at its end (docs/RULES.md, section 12).
use Rattle.std.specs.Prelude.{ℕ, ◌+◌, ◌≡◌, ◌↔◌, List, [], ◌++◌, Ok, IsSome}
use Rattle.laws.specs.Member.{◌∈◌}
use Rattle.streams.specs.Lines.{lines}
use Rattle.frames.specs.Frames.{FrameOf}
use Rattle.frames.specs.declared.Frame.{Frame}
use Rattle.reading.specs.declared.Refusal.TheVariants.{NotTheSheet}
use Rattle.reading.specs.Tables.{entry_in}
use Rattle.reading.specs.Reading.{sound, Reading}
use Rattle.intake.specs.Verdicts.{Departs, before_list}
use Rattle.shell.specs.Writes.{IsSound}
use Rattle.file.specs.Writes.{Writes}
use Rattle.file.specs.Told.{IsFaultLine}

-- a line is a frame 10
abbrev pub IsEntryLine : List ℕ → Type 0
IsEntryLine line = (f : Frame) × FrameOf line (Ok f) × IsSome (entry_in f)

-- an input ends with frames 10, and another has all its lines before these, and has no frame 10
pub record LeavesOutList (input other : List ℕ) : Type 0 where
  pub list : List (List ℕ)
  pub lines_are : lines input ≡ lines other ++ list
  pub listed : (line : List ℕ) → line ∈ list → IsEntryLine line
  pub none_left : (line : List ℕ) → line ∈ lines other → IsEntryLine line → ⊥

-- an accepted list changes nothing: the input without it writes the same
abbrev pub ListChangesNothing : Type 0
ListChangesNothing = (input other : List ℕ) → LeavesOutList input other
    → (fs : List Frame) → IsSound input fs
    → (text : List ℕ) → Writes input text ↔ Writes other text

-- where no line is faulty, and the list departs from that of the sheet, 15 is told alone: of the
-- entry that departs, or of the line after the last
abbrev pub ListRefused : Type 0
ListRefused = (input text : List ℕ) → Writes input text
    → (fs : List Frame) → Reading [] (lines input) (sound fs)
    → (k : ℕ) → Departs fs k
    → IsFaultLine (before_list fs + k + 1) NotTheSheet text
