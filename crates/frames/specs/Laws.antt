-- The laws of a line's frame, and of a frame's line.
use Rattle.std.specs.Prelude.{◌≡◌, ◌≤◌, ◌+◌, ◌*◌, ◌∷◌, ◌++◌, ℕ, List, Result, Some, Ok, length}
use Rattle.streams.specs.Lines.{lines}
use Rattle.kinds.specs.declared.Concept.{Concept}
use Rattle.kinds.specs.declared.State.{State}
use Rattle.frames.specs.declared.Frame.{Frame}
use Rattle.frames.specs.declared.Frame.TheVariants.{ListedMark}
use Rattle.frames.specs.declared.Misread.{Misread}
use Rattle.frames.specs.declared.kind.Kind.{Kind}
use Rattle.frames.specs.Frames.{FrameOf}
use Rattle.frames.specs.Kinds.{kind_of}
use Rattle.frames.specs.Text.{text, most_bytes}
use Rattle.frames.specs.Written.{kind_byte, numbers_of, frame_bytes, line_of, FitsLine}

-- a line has one frame, or one of the refusals 9 and 10
abbrev pub FrameOnce : Type 0
FrameOnce = (line : List ℕ) (r q : Result Frame Misread)
    → FrameOf line r → FrameOf line q → r ≡ q

-- the byte of a kind names it
abbrev pub KindNamed : Type 0
KindNamed = (kind : Kind) → kind_of (kind_byte kind) ≡ Some kind

-- a frame that fits a line is read from its line
abbrev pub LineIsRead : Type 0
LineIsRead = (frame : Frame) → FitsLine frame → FrameOf (line_of frame) (Ok frame)

-- a frame that was read fits a line
abbrev pub ReadFits : Type 0
ReadFits = (line : List ℕ) (frame : Frame) → FrameOf line (Ok frame) → FitsLine frame

-- and its line is the one that it was read from, unless that was shorter: that of a fact without
-- its deed number, or of an allowance of two bytes
abbrev pub LineIsWritten : Type 0
LineIsWritten = (line : List ℕ) (frame : Frame) → FrameOf line (Ok frame)
    → length line ≡ length (line_of frame) → line ≡ line_of frame

-- that of a listed mark is never shorter
abbrev pub ListedIsWritten : Type 0
ListedIsWritten = (line : List ℕ) (n : ℕ) (s t : State) (B : Concept)
    → let frame = ListedMark n s t B in FrameOf line (Ok frame) → line ≡ line_of frame

-- frames that fit a line and have the same numbers are the same
abbrev pub NumbersTell : Type 0
NumbersTell = (f g : Frame) → FitsLine f → FitsLine g → numbers_of f ≡ numbers_of g → f ≡ g

-- the line of a frame stands by itself among others: it ends at its end and not before
abbrev pub LineEnds : Type 0
LineEnds = (frame : Frame) (rest : List ℕ)
    → lines (text (frame_bytes frame) ++ rest) ≡ line_of frame ∷ lines rest

-- where the frame fits a line, it is no longer than a line may be with its end
abbrev pub LineShort : Type 0
LineShort = (frame : Frame) → FitsLine frame
    → length (text (frame_bytes frame)) ≤ 2 * most_bytes + 1
