-- A file made ready to be answered: what it drops told, and its other frames held.
use Rattle.std.specs.Prelude.{ℕ, ◌+◌, ◌≡◌, Bool, true, false, List, [], ◌∷◌, ◌++◌}
use Rattle.meaning.specs.Lent.{collection}
use Rattle.salvage.specs.Facts.{IsSalvage, entries_of}
use Rattle.expression.specs.Listed.{Listed}
use Rattle.frames.specs.declared.Frame.{Frame}
use Rattle.reading.specs.declared.File.{File}
use Rattle.reading.specs.File.{file_of, lent_tables, IsQuestion, IsQuestionOf}
use Rattle.reading.specs.Reading.{Taken}
use Rattle.reading.specs.Salvage.{Decides}
use Rattle.file.specs.Text.{dropped_line, dropped_text}

-- what is put for a line by its mark: where it is dropped, its line
abbrev pub mark_text : Bool → ℕ → List ℕ
mark_text true line = []
mark_text false line = dropped_line line

-- and for lines in a row, of which the first has this number
unfoldable pub marks_text : ℕ → List Bool → List ℕ
marks_text line [] = []
marks_text line (mark ∷ marks) = mark_text mark line ++ marks_text (line + 1) marks

-- the marks, one for each line before a list, are the salvage of the facts that are held
pub record IsSifted (file : File) (marks : List Bool) : Type 0 where
  pub question : Listed
  pub is : IsQuestion file question
  pub marked : let 𝓒 = collection file.counts (lent_tables file question) in
      IsSalvage 𝓒 (entries_of 𝓒 file.typed) marks

-- P of what frames drop, and of the frames over which they are answered, whatever they ask
pub record Settled (fs : List Frame) (P : List ℕ → List Frame → Type 0) : Type 0 where
  pub dropped : List ℕ
  pub over : List Frame
  pub taken : Taken over
  pub decided : (q : Listed) → IsQuestionOf over q → Decides fs q dropped over
  pub so : P dropped over

-- so it is of a file, whatever frames it holds
pub record Settles (file : File) (P : List ℕ → List Frame → Type 0) : Type 0 where
  pub by : (fs : List Frame) → Taken fs → file ≡ file_of fs → Settled fs P

-- these frames ask some question, and P of the lines for what is dropped
pub record AsksSome (P : List ℕ → Type 0) (dropped : List ℕ) (over : List Frame) : Type 0 where
  pub question : Listed
  pub is : IsQuestionOf over question
  pub so : P (dropped_text dropped)

-- what is held is that of these frames, and P of the lines for what is dropped
pub record HoldsOver (file : File) (P : List ℕ → Type 0)
    (dropped : List ℕ) (over : List Frame) : Type 0 where
  pub held : file ≡ file_of over
  pub so : P (dropped_text dropped)
