-- What the lister writes (docs/RULES.md, section 12): the fair copy of a collection, and behind it
-- the list of its closed sheet.
use Rattle.std.specs.Prelude.{ℕ, ◌≡◌, List, [], ◌++◌, map}
use Rattle.meaning.specs.Collection.{Collection}
use Rattle.meaning.specs.Model.{Contradiction}
use Rattle.expression.specs.Listed.{Listed}
use Rattle.frames.specs.declared.Frame.{Frame}
use Rattle.reading.specs.Tables.{Entry, frame_of}
use Rattle.reading.specs.File.{IsQuestionOf}
use Rattle.intake.specs.Verdicts.{collection_read, IsListing}
use Rattle.shell.specs.Writes.{WritesOf}
use Rattle.fair_copy.specs.Copy.{IsCopyOf, frames_text}

-- the list of a collection: of a contradiction, which has no sheet, it is empty
pub data IsListOf (𝓒 : Collection) : List Entry → Type 0 where
  no-sheet : Contradiction 𝓒 → IsListOf 𝓒 []
  of-sheet : {list : List Entry} → (Contradiction 𝓒 → ⊥)
      → IsListing 𝓒 list → IsListOf 𝓒 list

-- what is written of a file that is read whole, as these frames
pub record CopiesAndLists (fs : List Frame) (out : List ℕ) : Type 0 where
  pub question : Listed
  pub is : IsQuestionOf fs question
  pub copy : List Frame
  pub fair : IsCopyOf fs question copy
  pub list : List Entry
  pub listed : IsListOf (collection_read fs question) list
  pub written : out ≡ frames_text (copy ++ map frame_of list)

-- what is written of an input: the line of its first fault, or its fair copy and its list
abbrev pub WritesListing : List ℕ → List ℕ → Type 0
WritesListing = WritesOf CopiesAndLists
