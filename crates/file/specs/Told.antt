-- What stands in a text that is written (docs/RULES.md, sections 8 and 13), read back line by line
-- and byte by byte.
use Rattle.std.specs.Prelude.{ℕ, zero, suc, ◌+◌, ◌-◌, ◌*◌, ◌<◌, ◌≤◌, ◌≡◌, ◌≢◌, Bool, List, [], ◌∷◌, ◌++◌, nat_eq, if◌then◌else◌, length, slice_index_or, count_by}
use Rattle.kinds.specs.declared.Answer.{Answer}
use Rattle.kinds.specs.Answer.{answer_number, answer_count}
use Rattle.kinds.specs.declared.Ask.{Ask}
use Rattle.kinds.specs.declared.Ask.TheVariants.{Pair, From}
use Rattle.meaning.specs.Lent.{Call}
use Rattle.meaning.specs.Outcome.{Outcome}
use Rattle.streams.specs.Lines.{lines}
use Rattle.frames.specs.Digits.{bytes, byte_of}
use Rattle.frames.specs.Frames.{number_in}
use Rattle.reading.specs.declared.Refusal.{Refusal}
use Rattle.reading.specs.Refusal.{refusal_number}
use Rattle.reading.specs.Laws.{IsListed}
use Rattle.shell.specs.Faults.{line_width}
use Rattle.file.specs.Text.{count_width}

-- line k of a text, counted from 0, with its end
abbrev pub line_in : List ℕ → ℕ → List ℕ
line_in text k = slice_index_or (lines text) k [] ++ 0x0A ∷ []

-- the lines of facts that are dropped, of which each begins with 92, are the first of a text
abbrev pub tells_dropped : List ℕ → Bool
tells_dropped line = nat_eq (byte_of line 0) 0x92

unfoldable pub dropped_in : List ℕ → ℕ
dropped_in text = count_by tells_dropped (lines text)

-- so many answers are its last lines, and those of rounds stand between
abbrev pub rounds_in : ℕ → List ℕ → ℕ
rounds_in asks text = length (lines text) - dropped_in text - asks

-- line k of the rounds, and of so many answers, each counted from 0
abbrev pub round_at : List ℕ → ℕ → List ℕ
round_at text k = line_in text (dropped_in text + k)

abbrev pub line_at : ℕ → List ℕ → ℕ → List ℕ
line_at asks text k = line_in text (length (lines text) - asks + k)

-- the characters of a line of a dropped fact, its end among them; of a round, where a count has so
-- many bytes; of a fault, by its line's number; of an answer; and of the first n answers
abbrev pub dropped_length : ℕ
dropped_length = 2 * 3 + 1

abbrev pub round_length : ℕ → ℕ
round_length width = 2 * (1 + 2 * width) + 1

abbrev pub fault_length : ℕ → ℕ
fault_length line = 2 * (2 + line_width line) + 1

abbrev pub answer_length : ℕ → Ask → ℕ
answer_length width (Pair a b) = 2 * (4 + width) + 1
answer_length width (From a) = 2 * (3 + width) + 1

unfoldable pub answers_length : ℕ → (ℕ → Ask) → ℕ → ℕ
answers_length width ask zero = 0
answers_length width ask (suc n) = answers_length width ask n + answer_length width (ask n)

-- where the number stands on a line of an answer: at byte 3, and where one end is named at byte 2
abbrev pub number_place : List ℕ → ℕ
number_place line = if nat_eq (byte_of line 0) 0x8E then 2 else 3

-- the number, and behind it the count, high byte first
abbrev pub number_on : List ℕ → ℕ
number_on line = byte_of line (number_place line)

abbrev pub count_on : ℕ → List ℕ → ℕ
count_on width line = number_in width (byte_of line) (number_place line + 1)

-- the number that refuses a line, on the line of its fault: the last byte
abbrev pub refusal_on : List ℕ → ℕ
refusal_on line = byte_of line (bytes line - 1)

-- of so many answers none has number 3
abbrev pub IsUnspent : ℕ → List ℕ → Type 0
IsUnspent asks text = (k : ℕ) → k < asks → number_on (line_at asks text k) ≢ 3

-- it tells what was asked: by 8B of both individuals, by 8E of one
abbrev pub Names : Ask → List ℕ → Type 0
Names (Pair a b) line = (byte_of line 0 ≡ 0x8B) × (byte_of line 1 ≡ a.0) × (byte_of line 2 ≡ b.0)
Names (From a) line = (byte_of line 0 ≡ 0x8E) × (byte_of line 1 ≡ a.0)

-- a line of an answer: what was asked, the answer's number and its count
pub record IsAnswerLine
    (width : ℕ) (ask : Ask) (answer : Answer) (line : List ℕ) : Type 0 where
  pub long : length line ≡ answer_length width ask
  pub names : Names ask line
  pub number : number_on line ≡ answer_number answer
  pub count : count_on width line ≡ answer_count answer

-- a line tells the outcome of a call of the library, of which the number is one of 0 to 3
pub record TellsOutcome (call : Call) (line : List ℕ) : Type 0 where
  pub answer : Answer
  pub outcome : (area spare : List ℕ) × Outcome call answer area spare
  pub told : IsAnswerLine (count_width call.counts) call.ask answer line
  pub listed : number_on line ≤ 3

-- a line of a fact that is dropped: 92, and the number of the fact's line in two bytes
pub record IsDroppedLine (number : ℕ) (line : List ℕ) : Type 0 where
  pub long : length line ≡ dropped_length
  pub kind : byte_of line 0 ≡ 0x92
  pub place : number_in 2 (byte_of line) 1 ≡ number

-- a line of a round: 8A, its number, and how many marks it added, each as wide as a count
pub record IsRoundLine (width number count : ℕ) (line : List ℕ) : Type 0 where
  pub long : length line ≡ round_length width
  pub kind : byte_of line 0 ≡ 0x8A
  pub round : number_in width (byte_of line) 1 ≡ number
  pub marks : number_in width (byte_of line) (1 + width) ≡ count

-- a line of a fault: 8F, the number of the faulty line in two bytes or four, and the number that
-- refuses it, one of 4 to 15, but never 7
pub record IsFaultLine (number : ℕ) (refusal : Refusal) (line : List ℕ) : Type 0 where
  pub long : length line ≡ fault_length number
  pub kind : byte_of line 0 ≡ 0x8F
  pub place : number_in (line_width number) (byte_of line) 1 ≡ number
  pub refused : refusal_on line ≡ refusal_number refusal
  pub listed : IsListed (refusal_on line)
