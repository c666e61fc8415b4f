-- What an input is found to be (docs/RULES.md, sections 8, 12 and 13): each line by itself, and then
-- the list that ends it, held against the listing of its closed sheet.
use Rattle.std.specs.Prelude.{ℕ, ◌+◌, ◌-◌, ◌≡◌, ◌≢◌, ◌⊎◌, true, false, List, [], length, take}
use Rattle.laws.specs.Departs.{DepartsAt}
use Rattle.theory.specs.Listing.{Listing}
use Rattle.meaning.specs.Collection.{Collection}
use Rattle.meaning.specs.Lent.{collection}
use Rattle.meaning.specs.Listing.{numbered_lite}
use Rattle.meaning.specs.Model.{Contradiction}
use Rattle.expression.specs.Listed.{Listed}
use Rattle.frames.specs.declared.Frame.{Frame}
use Rattle.reading.specs.declared.Refusal.{Refusal}
use Rattle.reading.specs.declared.Refusal.TheVariants.{NotTheSheet}
use Rattle.reading.specs.File.{IsQuestionOf, tables_of}
use Rattle.reading.specs.Reading.{Verdict, faulty, sound, Reading}
use Rattle.reading.specs.Tables.{Entry, declared_by, list_in, salvages}

-- the collection that some frames type, with their question
abbrev pub collection_read : List Frame → Listed → Collection
collection_read fs q = collection (declared_by fs) (tables_of fs q)

-- the list of its closed sheet
abbrev pub IsListing : Collection → List Entry → Type 0
IsListing 𝓒 = Listing (numbered_lite 𝓒)

-- the list of some frames is accepted: there is none, or they choose no salvage and are a
-- contradiction, in which it is not looked at, or it is the listing
pub data Accepted (fs : List Frame) : Type 0 where
  no-list : list_in fs ≡ [] → Accepted fs
  contradiction : (q : Listed) → IsQuestionOf fs q → salvages fs ≡ false
      → Contradiction (collection_read fs q) → Accepted fs
  listing : (q : Listed) → IsQuestionOf fs q
      → IsListing (collection_read fs q) (list_in fs) → Accepted fs

-- there is a list, they choose salvage or are no contradiction, and it departs from the listing at
-- place k, counted from 0: there an entry of it is another than that of the listing, or one of both
-- has ended. A file that chooses salvage is no contradiction, whatever its facts: those that are kept
-- do not clash; and facts do not change the sheet, so that its listing is that of the facts kept.
pub record Departs (fs : List Frame) (k : ℕ) : Type 0 where
  pub given : list_in fs ≢ []
  pub question : Listed
  pub is : IsQuestionOf fs question
  pub sane : (salvages fs ≡ true) ⊎ (Contradiction (collection_read fs question) → ⊥)
  pub listing : List Entry
  pub lists : IsListing (collection_read fs question) listing
  pub at : DepartsAt (list_in fs) listing k

-- the list ends a file: how many frames stand before it
abbrev pub before_list : List Frame → ℕ
before_list fs = length fs - length (list_in fs)

-- an input is faulty where a line of it is; else where its list departs, at the entry that departs, or
-- at the line after the last; and else it is sound
pub data Verdicts (ls : List (List ℕ)) : Verdict → Type 0 where
  by-line : (before : List Frame) (r : Refusal) → Reading [] ls (faulty before r)
      → Verdicts ls (faulty before r)
  by-list : (fs : List Frame) (k : ℕ) → Reading [] ls (sound fs) → Departs fs k
      → Verdicts ls (faulty (take (before_list fs + k) fs) NotTheSheet)
  accepted : (fs : List Frame) → Reading [] ls (sound fs) → Accepted fs → Verdicts ls (sound fs)
