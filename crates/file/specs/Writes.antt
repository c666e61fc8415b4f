-- What a whole input writes, for any bytes (docs/RULES.md, sections 8 and 13): the line of its
-- first fault; or a line for each fact that is dropped, one for each round, and each ask's answer.
use Rattle.std.specs.Prelude.{ℕ, zero, suc, ◌≡◌, List, [], ◌++◌}
use Rattle.kinds.specs.declared.Answer.{Answer}
use Rattle.meaning.specs.Lent.{Call}
use Rattle.meaning.specs.Outcome.{Outcome}
use Rattle.expression.specs.Listed.{Listed}
use Rattle.frames.specs.declared.Frame.{Frame}
use Rattle.streams.specs.Lines.{lines}
use Rattle.reading.specs.Tables.{asks, entries, declared_by, rounds_allowed}
use Rattle.reading.specs.File.{IsQuestionOf, asked}
use Rattle.reading.specs.Deeds.{SameLine, InStep}
use Rattle.reading.specs.Salvage.{Decides}
use Rattle.intake.specs.Verdicts.{collection_read}
use Rattle.shell.specs.Writes.{IsSound, WritesOf}
use Rattle.file.specs.Text.{count_width, answer_line, dropped_text}
use Rattle.file.specs.Rounds.{round_lines, RoundsTold}

-- the line for a call of the library, where a count has so many bytes: its outcome, and what it asks
pub record Answers (width : ℕ) (call : Call) (line : List ℕ) : Type 0 where
  pub answer : Answer
  pub outcome : (area spare : List ℕ) × Outcome call answer area spare
  pub written : line ≡ answer_line width call.ask answer

-- the lines for the first k calls, in their order
unfoldable pub Answered : ℕ → (ℕ → Call) → ℕ → List ℕ → Type 0
Answered width call zero out = out ≡ []
Answered width call (suc k) out =
    (x y : List ℕ) × Answered width call k x × Answers width (call k) y × (out ≡ x ++ y)

-- an input is read whole, and it is answered over these frames, which are those that are read but
-- for the facts that salvage drops, and ask this question
pub record IsAsking (input : List ℕ) (fs : List Frame) (q : Listed) : Type 0 where
  pub read : List Frame
  pub sound : IsSound input read
  pub dropped : List ℕ
  pub decided : Decides read q dropped fs
  pub question : IsQuestionOf fs q

-- the rounds that are told of them
abbrev pub FileRounds : List Frame → Listed → List ℕ → Type 0
FileRounds fs q = RoundsTold (collection_read fs q) (rounds_allowed fs) (entries asks fs)

-- two inputs differ only in deed numbers: their lines are one by one the same, sound or not, or facts
-- that differ only in their deed numbers, typed or left out
abbrev pub SameButDeeds : List ℕ → List ℕ → Type 0
SameButDeeds input other = InStep SameLine (lines input) (lines other)

-- how many bytes a count of some frames has
abbrev pub frames_width : List Frame → ℕ
frames_width fs = count_width (declared_by fs)

-- what is written of the frames that are answered, with counts as wide as `width` says: the rounds,
-- and then each ask's answer
pub record RepliesTo (width : List Frame → ℕ) (fs : List Frame) (text : List ℕ) : Type 0 where
  pub question : Listed
  pub is : IsQuestionOf fs question
  pub counts : List ℕ
  pub told : FileRounds fs question counts
  pub out : List ℕ
  pub answered : Answered (width fs) (asked fs question) (entries asks fs) out
  pub whole : text ≡ round_lines (width fs) 0 counts ++ out

-- what is written of frames that were read whole: the facts that are dropped, and then what is
-- written of the frames without them
pub record Reports (width : List Frame → ℕ) (fs : List Frame) (text : List ℕ) : Type 0 where
  pub over : List Frame
  pub out : List ℕ
  pub replies : RepliesTo width over out
  pub dropped : List ℕ
  pub decided : Decides fs replies.question dropped over
  pub whole : text ≡ dropped_text dropped ++ out

-- what the desk writes
abbrev pub Writes : List ℕ → List ℕ → Type 0
Writes = WritesOf (Reports frames_width)
