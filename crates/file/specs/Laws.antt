-- Laws of what an input writes (docs/RULES.md, section 8).
use Rattle.std.specs.Prelude.{ℕ, ◌+◌, ◌<◌, ◌≤◌, ◌≡◌, ◌↔◌, ◌⊎◌, List, Some, length, take, min, sum, slice_index}
use Rattle.std.specs.Io.KnownBytes.{Appends}
use Rattle.meaning.specs.Collection.{Collection}
use Rattle.meaning.specs.Model.{Contradiction}
use Rattle.theory.specs.Sheet.{Needed}
use Rattle.meaning.specs.Lite.{lite}
use Rattle.theory.specs.Marks.{Stands, RoundCounts}
use Rattle.meaning.specs.LawsOfMarks.{first_marks}
use Rattle.expression.specs.Listed.{Listed}
use Rattle.frames.specs.declared.Frame.{Frame}
use Rattle.reading.specs.declared.Refusal.{Refusal}
use Rattle.reading.specs.Tables.{asks, entries, rounds_allowed}
use Rattle.reading.specs.File.{IsQuestionOf, asked}
use Rattle.reading.specs.Salvage.{Decides}
use Rattle.shell.specs.Laws as any
use Rattle.shell.specs.Writes.{IsSound, IsFaulty}
use Rattle.file.specs.declared.TheConstants.{MOST_TEXT}
use Rattle.intake.specs.Verdicts.{collection_read}
use Rattle.file.specs.Writes.{IsAsking, frames_width, SameButDeeds, Reports, Writes}
use Rattle.file.specs.Serves.{Serves}
use Rattle.streams.specs.Lines.{lines}
use Rattle.file.specs.Told.{rounds_in, round_at, line_at, TellsOutcome, IsRoundLine, IsFaultLine}

-- an input writes one text
abbrev pub WritesOnce : Type 0
WritesOnce = (input text out : List ℕ) → Writes input text → Writes input out → text ≡ out

-- no text is longer than its room
abbrev pub TextFits : Type 0
TextFits = (input text : List ℕ) → Writes input text → length text ≤ MOST_TEXT

-- the first 3,239,020 bytes of an input, or more of them, write what the whole writes
abbrev pub StartWrites : Type 0
StartWrites = (input : List ℕ) (n : ℕ) → 3239020 ≤ n → (text : List ℕ)
    → Writes (take n input) text ↔ Writes input text

-- two inputs that differ only in deed numbers write the same
abbrev pub WritesWithoutDeeds : Type 0
WritesWithoutDeeds = (input other : List ℕ) → SameButDeeds input other
    → (text : List ℕ) → Writes input text ↔ Writes other text

-- of frames that are read a text has a line for each ask at its end, and line k of those tells the
-- outcome of ask k over the frames that are answered
pub record AnswersEachAsk (fs : List Frame) (text : List ℕ) : Type 0 where
  pub question : Listed
  pub dropped : List ℕ
  pub over : List Frame
  pub decided : Decides fs question dropped over
  pub is : IsQuestionOf over question
  pub enough : entries asks fs ≤ length (lines text)
  pub each : (k : ℕ) → k < entries asks fs
      → TellsOutcome (asked over question k) (line_at (entries asks fs) text k)

-- an input that is read whole writes such a text
abbrev pub AsksAnswered : Type 0
AsksAnswered = (input text : List ℕ) → Writes input text
    → (fs : List Frame) → IsSound input fs → AnswersEachAsk fs text

-- before the answers stands a line for each of n rounds, and line k of those tells of round
-- k + 1 the marks that it added, which with states × concepts make those that stand after n rounds
pub record TellsRounds
    (fs : List Frame) (𝓒 : Collection) (n : ℕ) (text : List ℕ) : Type 0 where
  pub many : rounds_in (entries asks fs) text ≡ n
  pub counts : List ℕ
  pub added : RoundCounts (lite 𝓒) n counts
  pub each : (k : ℕ) → k < n
      → IsRoundLine (frames_width fs) (k + 1) (slice_index counts k) (round_at text k)
  pub stand : (m : ℕ) → Stands (lite 𝓒) n m → m ≡ sum counts + first_marks 𝓒.counts

-- an input that is read whole, asks something and is no contradiction tells so of rounds 1 to the
-- lesser of the rounds needed and the allowance
abbrev pub RoundsAreTold : Type 0
RoundsAreTold = (input text : List ℕ) → Writes input text
    → (fs : List Frame) (q : Listed) → IsAsking input fs q
    → 0 < entries asks fs → (Contradiction (collection_read fs q) → ⊥)
    → (n : ℕ) → Needed (lite (collection_read fs q)) n
    → TellsRounds fs (collection_read fs q) (min n (rounds_allowed fs)) text

-- and one without an ask, or of a contradiction, tells of none
abbrev pub NoRoundTold : Type 0
NoRoundTold = (input text : List ℕ) → Writes input text
    → (fs : List Frame) (q : Listed) → IsAsking input fs q
    → (entries asks fs ≡ 0) ⊎ Contradiction (collection_read fs q)
    → rounds_in (entries asks fs) text ≡ 0

-- a faulty one writes a line of its first faulty line's number, from 1, and of the number that
-- refuses that line
abbrev pub FaultTold : Type 0
FaultTold = (input text : List ℕ) → Writes input text
    → (before : List Frame) (r : Refusal) → IsFaulty input before r
    → IsFaultLine (length before + 1) r text

-- a text holds n characters of what is written, and then what it held
abbrev pub IsWritten : List ℕ → List ℕ → ℕ → List ℕ → Type 0
IsWritten = any.IsWritten (Reports frames_width)

-- two outcomes of answering in memory are equal: how much is told, and every byte of the text
abbrev pub WrittenOnce : Type 0
WrittenOnce = (input old text out : List ℕ) (n m : ℕ)
    → IsWritten input old n text → IsWritten input old m out → (n ≡ m) × (text ≡ out)

-- a sink whose bytes are known holds one thing afterwards
abbrev pub ServedOnce : Type 0
ServedOnce = (input old held other : List ℕ)
    → Serves input (Appends (Some old) (Some held)) → Serves input (Appends (Some old) (Some other))
    → held ≡ other
