-- Reading a file line by line (docs/RULES.md, section 8): what each line is found to be, and what
-- the whole file is.
use Rattle.std.specs.Prelude.{ℕ, List, [], ◌∷◌, ◌++◌, Result, Ok, Err}
use Rattle.frames.specs.Frames.{FrameOf}
use Rattle.frames.specs.declared.Frame.{Frame}
use Rattle.frames.specs.declared.Misread.{Misread}
use Rattle.reading.specs.declared.Refusal.{Refusal}
use Rattle.reading.specs.declared.Refusal.TheVariants.{OutOfPlace}
use Rattle.reading.specs.Refusal.{refusal_of}
use Rattle.reading.specs.Judged.{Judged}

-- what a line is found to be after the frames before it: no frame, one that is refused, or one that
-- is taken
pub data Finds (before : List Frame) (line : List ℕ) : Result Frame Refusal → Type 0 where
  unread : (m : Misread) → FrameOf line (Err m) → Finds before line (Err (refusal_of m))
  refused : (f : Frame) (r : Refusal) → FrameOf line (Ok f) → Judged before f (Err r)
      → Finds before line (Err r)
  taken : (f : Frame) → FrameOf line (Ok f) → Judged before f (Ok tt) → Finds before line (Ok f)

-- what a file is found to be: faulty, with the frames before its first faulty line and why that
-- line is refused, or sound, with its frames
pub data Verdict : Type 0 where
  faulty : List Frame → Refusal → Verdict
  sound : List Frame → Verdict

abbrev pub frames_of : Verdict → List Frame
frames_of (faulty before r) = before
frames_of (sound fs) = fs

-- reading on at some lines, after the frames of those before, by what each line is found to be; an
-- empty file lacks its line 1
pub data ReadingBy (Found : List Frame → List ℕ → Result Frame Refusal → Type 0)
    : List Frame → List (List ℕ) → Verdict → Type 0 where
  empty : ReadingBy Found [] [] (faulty [] OutOfPlace)
  whole : (f : Frame) (fs : List Frame) → ReadingBy Found (f ∷ fs) [] (sound (f ∷ fs))
  stopped : (before : List Frame) (line : List ℕ) (ls : List (List ℕ)) (r : Refusal)
      → Found before line (Err r) → ReadingBy Found before (line ∷ ls) (faulty before r)
  onward : (before : List Frame) (line : List ℕ) (ls : List (List ℕ)) (f : Frame) (v : Verdict)
      → Found before line (Ok f) → ReadingBy Found (before ++ f ∷ []) ls v
      → ReadingBy Found before (line ∷ ls) v

-- by the rules
abbrev pub Reading : List Frame → List (List ℕ) → Verdict → Type 0
Reading = ReadingBy Finds

-- frames of which each was taken after those before it
pub data Taken : List Frame → Type 0 where
  none : Taken []
  more : (before : List Frame) (f : Frame) → Taken before → Judged before f (Ok tt)
      → Taken (before ++ f ∷ [])
