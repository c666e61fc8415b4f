-- The rounds of a file told, and its asks answered.
use Rattle.std.specs.Prelude.{ℕ, ◌≡◌, ◌<◌, ◌/◌, List, ◌++◌, IfSome, length, slice_get}
use Rattle.kinds.specs.declared.Answer.{Answer}
use Rattle.meaning.specs.Lent.{collection}
use Rattle.meaning.specs.Outcome.{Outcome}
use Rattle.tables.specs.Asks.{ask_width}
use Rattle.tables.specs.Lists.{lists}
use Rattle.index.specs.declared.lent.Lent.{Lent}
use Rattle.expression.specs.Listed.{Listed}
use Rattle.reading.specs.declared.File.{File}
use Rattle.reading.specs.File.{IsQuestion, lent_tables, LendsTables, allowance_in, held_call}
use Rattle.file.specs.Text.{count_width}
use Rattle.file.specs.Rounds.{round_lines, RoundsTold}
use Rattle.file.specs.Writes.{Answered}

module _ (file : File) where
  abbrev pub ask_count : ℕ
  ask_count = length file.asks / ask_width

  -- how many bytes a count of it has
  abbrev pub held_width : ℕ
  held_width = count_width file.counts

  -- what the library is lent of it: its tables with its question, and its allowance
  pub record IsLentOf (lent : Lent) : Type 0 where
    pub counts : lent.collection.counts ≡ file.counts
    pub tables : LendsTables file (lists lent.collection)
    pub allowance : lent.allowance ≡ allowance_in file

  -- a library's outcome
  abbrev pub IsAnswer : Listed → ℕ → Answer → Type 0
  IsAnswer q k r = (area spare : List ℕ) × Outcome (held_call file q k) r area spare

  -- the rounds that are told of it
  abbrev pub HeldRounds : Listed → List ℕ → Type 0
  HeldRounds q =
      RoundsTold (collection file.counts (lent_tables file q)) (allowance_in file) ask_count

  -- P of the lines for the rounds of the file's question
  pub record RoundsAll (P : List ℕ → Type 0) : Type 0 where
    pub question : Listed
    pub is : IsQuestion file question
    pub counts : List ℕ
    pub told : HeldRounds question counts
    pub so : P (round_lines held_width 0 counts)

  -- and entry k is the answer to ask k
  pub record AnswersEach (answers : List Answer) (P : List ℕ → Type 0) : Type 0 where
    pub rounds : RoundsAll P
    pub each : (k : ℕ) → k < ask_count
        → IfSome (slice_get answers k) (IsAnswer rounds.question k)

  -- P of the lines for the rounds, and then those for all asks
  pub record AnswersAll (P : List ℕ → Type 0) : Type 0 where
    pub question : Listed
    pub is : IsQuestion file question
    pub counts : List ℕ
    pub told : HeldRounds question counts
    pub text : List ℕ
    pub answered : Answered held_width (held_call file question) ask_count text
    pub so : P (round_lines held_width 0 counts ++ text)
