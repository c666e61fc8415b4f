-- How the list that is next in an input compares with the listing of its sheet.
use Rattle.std.specs.Prelude.{ℕ, ◌≡◌, ◌≤◌, false, List, Some, IsTrue, map, length, take, slice_get}
use Rattle.std.specs.Bool.{OnFalse}
use Rattle.streams.specs.Input.{Input, left_of}
use Rattle.reading.specs.Tables.{Entry}
use Rattle.intake.specs.Entries.{entry_line}
use Rattle.intake.specs.Next.{TakesLines, BeginsOther}
use Rattle.intake.specs.declared.comparison.Compared.{Compared}
use Rattle.meaning.specs.Model.{Contradiction}
use Rattle.expression.specs.Listed.{Listed}
use Rattle.reading.specs.declared.File.{File}
use Rattle.reading.specs.File.{IsQuestion}
use Rattle.intake.specs.Held.{collection_held, IsLookedAt}
use Rattle.intake.specs.Verdicts.{IsListing}

-- entry k of the listing is none that comes next
pub record IsMissed (new : Input) (listing : List Entry) (k : ℕ) : Type 0 where
  pub entry : Entry
  pub is : slice_get listing k ≡ Some entry
  pub other : BeginsOther (left_of new) (entry_line entry)

-- the right entries are those that the listing begins with, and are taken; they are all of it, or its
-- next one is none that comes next
pub record IsComparedTo (listing : List Entry) (old new : Input) (c : Compared) : Type 0 where
  pub few : c.right ≤ length listing
  pub taken : TakesLines (left_of old) (left_of new) (map entry_line (take c.right listing))
  pub whole : IsTrue c.is_whole → c.right ≡ length listing
  pub missed : OnFalse c.is_whole (IsMissed new listing c.right)

-- what is held of a file is a contradiction, and it chooses no salvage
pub record IsBroken (file : File) : Type 0 where
  pub question : Listed
  pub is : IsQuestion file question
  pub plain : file.salvages ≡ false
  pub broken : Contradiction (collection_held file question)

-- its list is looked at, and compares so with the listing of its sheet
pub record IsCompared (file : File) (old new : Input) (c : Compared) : Type 0 where
  pub question : Listed
  pub is : IsQuestion file question
  pub looked_at : IsLookedAt file question
  pub listing : List Entry
  pub lists : IsListing (collection_held file question) listing
  pub so : IsComparedTo listing old new c
