-- A frame judged and a line taken by what is held, whatever frames it is held of.
use Rattle.std.specs.Prelude.{ℕ, ◌<◌, ◌≡◌, List, [], ◌∷◌, ◌++◌, None, Result, Ok, Err}
use Rattle.kinds.specs.declared.Counts.{Counts}
use Rattle.kinds.specs.Kinds.{state}
use Rattle.laws.specs.First.{FirstOf, ◌else◌}
use Rattle.meaning.specs.Collection.{LetterDeclared}
use Rattle.expression.specs.Marks.{opening, mark_letter}
use Rattle.expression.specs.Listed.{Listed}
use Rattle.frames.specs.declared.Frame.{Frame}
use Rattle.frames.specs.declared.Frame.TheVariants.{Expression}
use Rattle.reading.specs.declared.File.{File}
use Rattle.reading.specs.declared.Refusal.{Refusal}
use Rattle.reading.specs.declared.Refusal.TheVariants.{BadCount, BadTable, BadNumber, BadAsk, OutOfPlace, NoExpression, TooDeep, AnotherShape}
use Rattle.reading.specs.File.{file_of, IsInPlace, HasShelfRoom}
use Rattle.reading.specs.Judged.{CountsOk, NumbersOk, AskOk, IsShallow, IsExpressed, IsShaped}
use Rattle.reading.specs.Reading.{Finds, Taken}

-- neither an expression nor a step or a final state is held
abbrev pub HasNoQuestion : File → Type 0
HasNoQuestion file = (file.expression ≡ None) × (file.steps ≡ []) × (file.finals ≡ [])

-- what a mark reads, if it reads anything, is declared
abbrev pub MarkOk : Counts → ℕ → Type 0
MarkOk counts mark = mark < opening → LetterDeclared counts (mark_letter mark)

-- the first tests of a frame, by what is held: 11, 4, 5, 6 and 8
abbrev pub FrameJudged : File → Frame → Result (Unit {0}) Refusal → Type 0
FrameJudged file f =
    FirstOf (IsInPlace file f else Err OutOfPlace
    ∷ CountsOk f else Err BadCount
    ∷ HasShelfRoom file f else Err BadTable
    ∷ NumbersOk file.counts f else Err BadNumber
    ∷ AskOk file.counts f else Err BadAsk ∷ [])
    (λ r. r ≡ Ok tt)

-- a frame passes all of them
pub record Passes (file : File) (f : Frame) : Type 0 where
  pub in_place : IsInPlace file f
  pub counts : CountsOk f
  pub room : HasShelfRoom file f
  pub numbers : NumbersOk file.counts f
  pub ask : AskOk file.counts f

-- the last tests of a frame: 13, 12 and 14
abbrev pub ExpressionJudged : Counts → Frame → Result (Unit {0}) Refusal → Type 0
ExpressionJudged counts f =
    FirstOf (IsShallow f else Err TooDeep
    ∷ IsExpressed f else Err NoExpression
    ∷ IsShaped counts f else Err AnotherShape ∷ [])
    (λ r. r ≡ Ok tt)

abbrev pub RowJudged : Counts → List ℕ → Result (Unit {0}) Refusal → Type 0
RowJudged counts row = ExpressionJudged counts (Expression row)

-- the states of an automaton are declared, and its start, 0
pub record IsShapedBy (counts : Counts) (a : Listed) : Type 0 where
  pub states : counts.states ≡ a.states
  pub start : counts.start ≡ state 0

-- a line after some frames: it is refused, or its frame is held with them
pub data Turn (before : List Frame) (line : List ℕ)
    : Result (Unit {0}) Refusal → File → Type 0 where
  refused : (r : Refusal) → Finds before line (Err r) → Turn before line (Err r) (file_of before)
  taken : (f : Frame) → Finds before line (Ok f)
      → Turn before line (Ok tt) (file_of (before ++ f ∷ []))

pub record TakesLine
    (old : File) (line : List ℕ) (r : Result (Unit {0}) Refusal) (new : File) : Type 0 where
  pub by : (before : List Frame) → Taken before → old ≡ file_of before → Turn before line r new
