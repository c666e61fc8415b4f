-- Laws of what the lister writes of an input (docs/RULES.md, sections 12 and 13).
use Rattle.std.specs.Prelude.{ℕ, ◌+◌, ◌*◌, ◌≤◌, ◌≡◌, ◌≢◌, ◌↔◌, false, List, [], ◌++◌, map, length, take}
use Rattle.meaning.specs.Model.{Contradiction}
use Rattle.expression.specs.Listed.{Listed}
use Rattle.streams.specs.Lines.{lines}
use Rattle.frames.specs.declared.Frame.{Frame}
use Rattle.frames.specs.declared.kind.Kind.TheVariants.{ListedMark}
use Rattle.frames.specs.Kinds.{frame_length}
use Rattle.reading.specs.declared.Refusal.{Refusal}
use Rattle.reading.specs.Tables.{Entry, frame_of, listed, most, list_in, salvages}
use Rattle.reading.specs.File.{IsQuestionOf}
use Rattle.intake.specs.Verdicts.{collection_read}
use Rattle.shell.specs.Writes.{IsSound, IsFaulty}
use Rattle.file.specs.Writes.{Writes}
use Rattle.fair_copy.specs.Asking.{asks_of}
use Rattle.fair_copy.specs.Copy.{IsReadAs, IsCopyOf, frames_text, WritesCopy}
use Rattle.fair_copy.specs.Laws.{characters_of, most_copy, SameCollection}
use Rattle.listing.specs.Lists.{IsListOf, WritesListing}

-- an input writes one text
abbrev pub ListingOnce : Type 0
ListingOnce = (input text out : List ℕ) → WritesListing input text → WritesListing input out
    → text ≡ out

-- the first 3,239,020 bytes of an input, or more of them, write what the whole writes
abbrev pub StartListed : Type 0
StartListed = (input : List ℕ) (n : ℕ) → 3239020 ≤ n → (text : List ℕ)
    → WritesListing (take n input) text ↔ WritesListing input text

-- the characters of the longest text, 2,311,096: those of the longest copy, and of the most entries
abbrev pub most_listing : ℕ
most_listing = most_copy + most listed * characters_of (frame_length ListedMark)

-- no text is longer
abbrev pub ListingFits : Type 0
ListingFits = (input text : List ℕ) → WritesListing input text → length text ≤ most_listing

-- what is written of a sound input is itself sound, so that its list is accepted, chooses no salvage,
-- and is the same collection
pub record ReadsAsListed (fs : List Frame) (q : Listed) (out : List ℕ) : Type 0 where
  pub copy : List Frame
  pub fair : IsCopyOf fs q copy
  pub list : List Entry
  pub is : IsListOf (collection_read fs q) list
  pub sound : IsSound out (copy ++ map frame_of list)
  pub plain : salvages (copy ++ map frame_of list) ≡ false
  pub question : Listed
  pub asks : IsQuestionOf (copy ++ map frame_of list) question
  pub same : SameCollection fs q (copy ++ map frame_of list) question

abbrev pub ListingIsRead : Type 0
ListingIsRead = (input out : List ℕ) → WritesListing input out
    → (fs : List Frame) (q : Listed) → IsReadAs input fs q → ReadsAsListed fs q out

-- it is written again as it is
abbrev pub ListingAgain : Type 0
ListingAgain = (input out : List ℕ) → WritesListing input out
    → (fs : List Frame) → IsSound input fs → WritesListing out out

-- and has the fair copy of the input
abbrev pub ListingCopied : Type 0
ListingCopied = (input out : List ℕ) → WritesListing input out
    → (fs : List Frame) → IsSound input fs
    → (copy : List ℕ) → WritesCopy out copy ↔ WritesCopy input copy

-- an input and what is written of it end with the same lines, one for each entry of the input's
-- list, and the lines before these are those of its copy
pub record EndsAlike (input : List ℕ) (fs : List Frame) (out : List ℕ) : Type 0 where
  pub before : List (List ℕ)
  pub list : List (List ℕ)
  pub copy : List ℕ
  pub typed : lines input ≡ before ++ list
  pub long : length list ≡ length (list_in fs)
  pub copied : WritesCopy input copy
  pub written : lines out ≡ lines copy ++ list

-- so it is where the input is sound, has a list, and is no contradiction, as its facts are typed
abbrev pub HasItsList : List ℕ → List Frame → Listed → List ℕ → Type 0
HasItsList input fs q out =
    list_in fs ≢ [] → (Contradiction (collection_read fs q) → ⊥) → EndsAlike input fs out

abbrev pub ListingKept : Type 0
ListingKept = (input out : List ℕ) → WritesListing input out
    → (fs : List Frame) (q : Listed) → IsReadAs input fs q → HasItsList input fs q out

-- of the copy and the list that are written, with the asks of the file between them, the desk
-- writes what it writes of the file
pub record AnswersBetween (input : List ℕ) (fs : List Frame) (out : List ℕ) : Type 0 where
  pub copy : List ℕ
  pub list : List ℕ
  pub parts : out ≡ copy ++ list
  pub copied : WritesCopy input copy
  pub answered : (text : List ℕ)
      → Writes (copy ++ frames_text (asks_of fs) ++ list) text ↔ Writes input text

-- so it does where the file chooses no salvage
abbrev pub ListingAnswers : Type 0
ListingAnswers = (input out : List ℕ) → WritesListing input out
    → (fs : List Frame) → IsSound input fs → salvages fs ≡ false → AnswersBetween input fs out

-- of a faulty input the lister writes what the desk writes
abbrev pub FaultyAlike : Type 0
FaultyAlike = (input : List ℕ) (before : List Frame) (r : Refusal) → IsFaulty input before r
    → (text : List ℕ) → WritesListing input text ↔ Writes input text
