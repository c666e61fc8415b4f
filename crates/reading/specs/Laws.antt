-- Laws of reading a file (docs/RULES.md, sections 7 and 8).
use Rattle.std.specs.Prelude.{ℕ, ◌+◌, ◌<◌, ◌≤◌, ◌≡◌, ◌≢◌, ◌↔◌, IsSome, List, [], ◌∷◌, ◌++◌, Result, Ok, Err, map, length, take, count_by}
use Rattle.meaning.specs.Lent.{Tables, Sound}
use Rattle.streams.specs.Lines.{lines}
use Rattle.streams.specs.declared.TheConstants.{LINE}
use Rattle.expression.specs.Listed.{Listed}
use Rattle.frames.specs.declared.Frame.{Frame}
use Rattle.reading.specs.declared.Fault.{Fault}
use Rattle.reading.specs.declared.File.{File}
use Rattle.reading.specs.declared.Refusal.{Refusal}
use Rattle.reading.specs.Refusal.{refusal_number}
use Rattle.reading.specs.Tables.{Kind, steps, asks, listed, most, most_listed, most_lines, entries, Entry, entry_in, frame_of, list_in, declared_by, is_declared, is_allowance, is_expression, is_salvage}
use Rattle.reading.specs.File.{file_of, IsQuestionOf, asked, LendsTables}
use Rattle.reading.specs.Judged.{NumbersOk, Judged}
use Rattle.reading.specs.Reading.{Finds, Verdict, sound, frames_of, Reading, Taken}
use Rattle.reading.specs.Reads.{BeginsList, ReadsFile}

-- a frame is refused for one reason, or taken
abbrev pub JudgedOnce : Type 0
JudgedOnce = (before : List Frame) (f : Frame) (r q : Result (Unit {0}) Refusal)
    → Judged before f r → Judged before f q → r ≡ q

-- a line is found to be one thing
abbrev pub FindsOnce : Type 0
FindsOnce = (before : List Frame) (line : List ℕ) (r q : Result Frame Refusal)
    → Finds before line r → Finds before line q → r ≡ q

-- and so is a file
abbrev pub ReadingOnce : Type 0
ReadingOnce = (before : List Frame) (ls : List (List ℕ)) (v w : Verdict)
    → Reading before ls v → Reading before ls w → v ≡ w

-- what is told of a file, and what is then held of it, is one thing
abbrev pub ReadsOnce : Type 0
ReadsOnce = (ls : List (List ℕ)) (r q : Result (Unit {0}) Fault) (x y : File)
    → ReadsFile ls r x → ReadsFile ls q y → (r ≡ q) × (x ≡ y)

-- the number that refuses a file is one of 4 to 15, but never 7
abbrev pub IsListed : ℕ → Type 0
IsListed number = (4 ≤ number) × (number ≤ 15) × (number ≢ 7)

abbrev pub RefusalsListed : Type 0
RefusalsListed = (r : Refusal) → IsListed (refusal_number r)

-- two refusals with one number are one refusal
abbrev pub RefusalOnce : Type 0
RefusalOnce = (r q : Refusal) → refusal_number r ≡ refusal_number q → r ≡ q

-- and 15 refuses no line by itself
abbrev pub LinesRefused : Type 0
LinesRefused = (before : List Frame) (line : List ℕ) (r : Refusal)
    → Finds before line (Err r) → refusal_number r ≤ 14

-- the frames that were read of a file, sound or faulty, were taken one after the other
abbrev pub ReadingTaken : Type 0
ReadingTaken = (ls : List (List ℕ)) (v : Verdict) → Reading [] ls v → Taken (frames_of v)

-- where frames were taken, the call of each ask among them passes the library's tests 4, 5, 6
-- and 8
abbrev pub TakenAccepted : Type 0
TakenAccepted = (fs : List Frame) → Taken fs → (q : Listed) → IsQuestionOf fs q
    → (k : ℕ) → k < entries asks fs → Sound (asked fs q k)

-- and so it does where an input is read whole
abbrev pub WholeAccepted : Type 0
WholeAccepted = (input : List ℕ) (fs : List Frame) → Reading [] (lines input) (sound fs)
    → (q : Listed) → IsQuestionOf fs q
    → (k : ℕ) → k < entries asks fs → Sound (asked fs q k)

-- frames ask at most one question
abbrev pub QuestionOnce : Type 0
QuestionOnce = (fs : List Frame) (q r : Listed) → IsQuestionOf fs q → IsQuestionOf fs r → q ≡ r

-- what is held lends one row of tables
abbrev pub LentOnce : Type 0
LentOnce = (file : File) (t u : Tables) → LendsTables file t → LendsTables file u → t ≡ u

-- no table holds more than its most; at most one frame declares, one gives an allowance, one
-- chooses salvage, and one gives an expression, which takes the place of a step
pub record Within (fs : List Frame) : Type 0 where
  pub few : (kind : Kind) → entries kind fs ≤ most kind
  pub declared : count_by is_declared fs ≤ 1
  pub allowances : count_by is_allowance fs ≤ 1
  pub choices : count_by is_salvage fs ≤ 1
  pub expressions : count_by is_expression fs + entries steps fs ≤ most steps

-- frames that are taken stay within that
abbrev pub TakenWithin : Type 0
TakenWithin = (fs : List Frame) → Taken fs → Within fs

-- and any frames that do, taken or not, are at most 138,787, with the list: line 1, the allowance,
-- the choice of salvage, and as many as the tables have records
abbrev pub LinesBounded : Type 0
LinesBounded = (fs : List Frame) → Within fs → length fs ≤ most_lines

-- two rows of lines that read alike for n bytes: the same, each with its end, up to one that is too
-- long in both, or that may reach beyond those bytes
pub data Alike : ℕ → List (List ℕ) → List (List ℕ) → Type 0 where
  far : {n : ℕ} {ls ms : List (List ℕ)} → n ≤ LINE → Alike n ls ms
  ended : {n : ℕ} → Alike n [] []
  same : {n m : ℕ} {ls ms : List (List ℕ)} (l : List ℕ) → n ≤ length l + 1 + m → Alike m ls ms
      → Alike n (l ∷ ls) (l ∷ ms)
  long : {n : ℕ} {ls ms : List (List ℕ)} (l m : List ℕ) → LINE < length l → LINE < length m
      → Alike n (l ∷ ls) (m ∷ ms)

-- an input and its first n bytes read alike for n bytes
abbrev pub StartAlike : Type 0
StartAlike = (input : List ℕ) (n : ℕ) → Alike n (lines input) (lines (take n input))

-- the first 3,239,020 bytes of an input, or more of them, are found to be what the whole is: 7,716
-- lines of 131 bytes, and 131,072 of an entry, which have 17
abbrev pub StartDecides : Type 0
StartDecides = (input : List ℕ) (n : ℕ) → 3239020 ≤ n → (v : Verdict)
    → Reading [] (lines (take n input)) v ↔ Reading [] (lines input) v

-- frames that were taken are those of a collection, and then those of a list
pub record EndsInList (fs : List Frame) : Type 0 where
  pub collection : List Frame
  pub no_list : list_in collection ≡ []
  pub are : fs ≡ collection ++ map frame_of (list_in fs)

abbrev pub ListLast : Type 0
ListLast = (fs : List Frame) → Taken fs → EndsInList fs

-- where a list has begun, nothing but an entry is taken
abbrev pub ListOnly : Type 0
ListOnly = (before : List Frame) (f : Frame) → Judged before f (Ok tt)
    → list_in before ≢ [] → IsSome (entry_in f)

-- a list has as many entries as are counted
abbrev pub ListCounted : Type 0
ListCounted = (fs : List Frame) → entries listed fs ≡ length (list_in fs)

-- an entry is taken after line 1, where there is room for one more, and its states and its concept
-- are declared
abbrev pub EntryTaken : Type 0
EntryTaken = (before : List Frame) (entry : Entry) → before ≢ []
    → entries listed before < most_listed → NumbersOk (declared_by before) (frame_of entry)
    → Judged before (frame_of entry) (Ok tt)

-- what is held of some entries more is what was held, with both counts raised by how many they are
abbrev pub EntriesHeld : Type 0
EntriesHeld = (before : List Frame) (list : List Entry) → before ≢ []
    → let old = file_of before in
    let count = length list in
    file_of (before ++ map frame_of list)
    ≡ record old { lines = old.lines + count; listed = old.listed + count }

-- where the bytes that are left begin as an entry does, and are found to be sound, there is a list
abbrev pub ListBegins : Type 0
ListBegins = (before fs : List Frame) (left : List ℕ) → BeginsList left
    → Reading before (lines left) (sound fs) → list_in fs ≢ []

-- the frames of a sound file begin with those that were read before
pub record Extends (before fs : List Frame) : Type 0 where
  pub rest : List Frame
  pub are : fs ≡ before ++ rest

abbrev pub SoundExtends : Type 0
SoundExtends = (before fs : List Frame) (ls : List (List ℕ))
    → Reading before ls (sound fs) → Extends before fs
