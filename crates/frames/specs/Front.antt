-- A line with its end at the front of some characters, and its frame.
use Rattle.std.specs.Prelude.{ℕ, ◌≡◌, ◌==◌, ◌+◌, ◌<◌, ◌≤◌, List, Some, Ok, length, take, position, slice_index}
use Rattle.streams.specs.declared.TheConstants.{LINE}
use Rattle.frames.specs.Digits.{bytes}
use Rattle.frames.specs.Frames.{FrameOf}
use Rattle.frames.specs.Kinds.{HasLength}
use Rattle.frames.specs.Measured.{IsMeasured}
use Rattle.frames.specs.declared.Front.{Front}
use Rattle.frames.specs.declared.kind.Kind.{Kind}

-- a line of the length of a kind's frame is the first characters, and an end stands behind it
pub record BeginsLine (kind : Kind) (held line : List ℕ) : Type 0 where
  pub is : line ≡ take (length line) held
  pub within : length line < length held
  pub near : length line ≤ 16
  pub end : slice_index held (length line) ≡ 0x0A
  pub measured : IsMeasured line
  pub long : HasLength kind (bytes line)

-- a line of this frame is the first characters, and the end behind it is the first within reach
pub record BeginsFrame (held : List ℕ) (front : Front) : Type 0 where
  pub within : front.length < length held
  pub first : position (λ b. b == 0x0A) (take (LINE + 1) held) ≡ Some front.length
  pub frame : FrameOf (take front.length held) (Ok front.frame)
