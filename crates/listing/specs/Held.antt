-- What is held of a file whose question is typed; and what is put of a list.
use Rattle.std.specs.Prelude.{ℕ, ◌≡◌, List, None, map}
use Rattle.kinds.specs.Kinds.{CountsFit}
use Rattle.kinds.specs.declared.State.{State}
use Rattle.kinds.specs.declared.Concept.{Concept}
use Rattle.meaning.specs.Collection.{Collection}
use Rattle.meaning.specs.Lent.{Tables, collection, ShapesOk, NumbersFit}
use Rattle.frames.specs.declared.Frame.{Frame}
use Rattle.frames.specs.declared.Frame.TheVariants.{ListedMark}
use Rattle.reading.specs.declared.File.{File}
use Rattle.reading.specs.Tables.{Entry, frame_of}
use Rattle.reading.specs.File.{typed_question, lent_tables}
use Rattle.fair_copy.specs.Copy.{frames_text}
use Rattle.listing.specs.Lists.{IsListOf}

-- its tables, and the collection that they mean
abbrev pub typed_tables : File → Tables
typed_tables file = lent_tables file (typed_question file)

abbrev pub typed_collection : File → Collection
typed_collection file = collection file.counts (typed_tables file)

-- no expression is held, and no test of the library refuses the tables
pub record IsTypedOut (file : File) : Type 0 where
  pub typed : file.expression ≡ None
  pub counts : CountsFit file.counts
  pub shapes : ShapesOk (typed_tables file)
  pub numbers : NumbersFit file.counts (typed_tables file)

-- the frames of the marks of a round
abbrev pub round_frames : ℕ → List (State × State × Concept) → List Frame
round_frames n marks = map (λ m. ListedMark n m.0 m.1 m.2) marks

-- P holds of the lines of a collection's list
pub record ListAll (𝓒 : Collection) (P : List ℕ → Type 0) : Type 0 where
  pub list : List Entry
  pub is : IsListOf 𝓒 list
  pub so : P (frames_text (map frame_of list))
