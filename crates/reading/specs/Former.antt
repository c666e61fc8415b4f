-- What a file was found to be while there were at most 16 states (docs/RULES.md, section 8): each
-- line what it is found to be today, or refused for one of six reasons that refuse no line today.
use Rattle.std.specs.Prelude.{ℕ, false, ◌<◌, ◌≤◌, ◌≡◌, ◌≢◌, ◌↔◌, ◌⊎◌, ⊤, All, List, [], Result, Ok, Err, length}
use Rattle.kinds.specs.declared.Concept.{Concept}
use Rattle.kinds.specs.declared.Counts.{Counts}
use Rattle.kinds.specs.declared.State.{State}
use Rattle.meaning.specs.Former.{former_states}
use Rattle.frames.specs.Digits.{bytes}
use Rattle.frames.specs.Frames.{FrameOf}
use Rattle.frames.specs.declared.Frame.{Frame}
use Rattle.frames.specs.declared.Frame.TheVariants.{Declared, RoleStep, TestStep, Final, Allowance, Salvage, ListedMark}
use Rattle.reading.specs.declared.Refusal.{Refusal}
use Rattle.reading.specs.declared.Refusal.TheVariants.{BadCount, BadTable, BadLine, BadFrame}
use Rattle.reading.specs.Judged.{InPlace}
use Rattle.reading.specs.Reading.{Finds, Verdict, faulty, sound, ReadingBy, Reading}
use Rattle.reading.specs.Tables.{steps, finals, entries, list_in, declared_by, salvages}

-- the most characters of a line, the bytes of a frame 0C with its kind, and the most steps and final
-- states of a file; the most states are `former_states`
abbrev pub former_line : ℕ
former_line = 64

abbrev pub former_allowance : ℕ
former_allowance = 3

abbrev pub former_steps : ℕ
former_steps = 512

abbrev pub former_finals : ℕ
former_finals = 16

-- the table that the record of a frame goes into had no room for one more
abbrev pub WasFull : List Frame → Frame → Type 0
WasFull before (RoleStep s R t) = former_steps ≤ entries steps before
WasFull before (TestStep s A t) = former_steps ≤ entries steps before
WasFull before (Final s) = former_finals ≤ entries finals before
WasFull before other = ⊥

module _ (before : List Frame) (line : List ℕ) where
  -- the frame of a line was refused: with 10 a long allowance, and an entry of a list and the
  -- choice of salvage, whose kinds were not known; and where it is in its place, with 4 a line 1 of
  -- more states, and with 5 a record more
  pub data FrameWasRefused : Frame → Refusal → Type 0 where
    wide : (n : ℕ) → bytes line ≢ former_allowance → FrameWasRefused (Allowance n) BadFrame
    unknown : (n : ℕ) (s t : State) (B : Concept) → FrameWasRefused (ListedMark n s t B) BadFrame
    unknown_choice : FrameWasRefused Salvage BadFrame
    many : (c : Counts) → InPlace before (Declared c) → former_states < c.states
        → FrameWasRefused (Declared c) BadCount
    full : (f : Frame) → InPlace before f → WasFull before f → FrameWasRefused f BadTable

  -- a line was refused: with 9 a long one, and any other by its frame
  pub data WasRefused : Refusal → Type 0 where
    long : former_line < length line → WasRefused BadLine
    framed : (f : Frame) (r : Refusal) → length line ≤ former_line → FrameOf line (Ok f)
        → FrameWasRefused f r → WasRefused r

  -- what the line was found to be
  pub data FormerFinds : Result Frame Refusal → Type 0 where
    was_refused : (r : Refusal) → WasRefused r → FormerFinds (Err r)
    as_today : (r : Result Frame Refusal) → ((q : Refusal) → ¬ WasRefused q)
        → Finds before line r → FormerFinds r

-- and a file, line by line
abbrev pub FormerReading : List Frame → List (List ℕ) → Verdict → Type 0
FormerReading = ReadingBy FormerFinds

-- a file that was refused with 4, 5, 9 or 10
abbrev pub IsFormerFault : Verdict → Type 0
IsFormerFault (faulty before BadCount) = ⊤
IsFormerFault (faulty before BadTable) = ⊤
IsFormerFault (faulty before BadLine) = ⊤
IsFormerFault (faulty before BadFrame) = ⊤
IsFormerFault other = ⊥

-- a file was found to be one thing
abbrev pub FormerOnce : Type 0
FormerOnce = (ls : List (List ℕ)) (v w : Verdict)
    → FormerReading [] ls v → FormerReading [] ls w → v ≡ w

-- and, where it is found to be anything, it was found to be something
abbrev pub FormerFound : Type 0
FormerFound = (ls : List (List ℕ)) (v : Verdict) → Reading [] ls v
    → (w : Verdict) × FormerReading [] ls w

-- no line has more than 64 characters, and no allowance more than two bytes
pub record FormerLine (line : List ℕ) : Type 0 where
  pub short : length line ≤ former_line
  pub allowance : (n : ℕ) → FrameOf line (Ok (Allowance n)) → bytes line ≡ former_allowance

-- and a file has no more states, steps and final states than it might have then, no list, and no
-- choice of salvage
pub record FormerLimits (ls : List (List ℕ)) (fs : List Frame) : Type 0 where
  pub lines : All FormerLine ls
  pub states : (declared_by fs).states ≤ former_states
  pub steps : entries steps fs ≤ former_steps
  pub finals : entries finals fs ≤ former_finals
  pub no_list : list_in fs ≡ []
  pub no_choice : salvages fs ≡ false

-- a file that was sound is sound, with the same frames, and has no more than that; and each such
-- file was sound
abbrev pub FormerSound : Type 0
FormerSound = (ls : List (List ℕ)) (fs : List Frame)
    → FormerReading [] ls (sound fs) ↔ (Reading [] ls (sound fs) × FormerLimits ls fs)

-- any other is what it was, or was refused with one of those numbers
abbrev pub FormerElse : Type 0
FormerElse = (ls : List (List ℕ)) (v : Verdict)
    → FormerReading [] ls v → Reading [] ls v ⊎ IsFormerFault v
