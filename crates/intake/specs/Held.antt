-- The collection that is held of a file, whether its list is looked at, the sheet that the list is
-- held against, and the list cut short.
use Rattle.std.specs.Prelude.{ℕ, ◌+◌, ◌≡◌, ◌⊎◌, Bool, true, false, List, [], take}
use Rattle.meaning.specs.Collection.{Collection}
use Rattle.meaning.specs.Lent.{Tables, collection}
use Rattle.meaning.specs.Model.{Contradiction}
use Rattle.expression.specs.Listed.{Listed}
use Rattle.frames.specs.declared.Frame.{Frame}
use Rattle.reading.specs.declared.File.{File}
use Rattle.reading.specs.File.{file_of, lent_tables, IsQuestion}
use Rattle.reading.specs.Reading.{Taken}
use Rattle.intake.specs.Verdicts.{before_list}

-- the collection that is held, with a question
abbrev pub collection_held : File → Listed → Collection
collection_held file q = collection file.counts (lent_tables file q)

-- its list is looked at: it chooses salvage, or is no contradiction
abbrev pub IsLookedAt : File → Listed → Type 0
IsLookedAt file q = (file.salvages ≡ true) ⊎ (Contradiction (collection_held file q) → ⊥)

-- tables, and those without their facts where some file chooses salvage
abbrev pub sifted_tables : Bool → Tables → Tables
sifted_tables false t = t
sifted_tables true t = record t { concept-facts = []; role-facts = [] }

-- the tables of the sheet that a list is held against, which facts do not change
abbrev pub sheet_tables : File → Listed → Tables
sheet_tables file q = sifted_tables file.salvages (lent_tables file q)

-- and the collection that they mean
abbrev pub sheet_held : File → Listed → Collection
sheet_held file q = collection file.counts (sheet_tables file q)

-- tables are those of that sheet
pub record LendsSheet (file : File) (tables : Tables) : Type 0 where
  pub question : Listed
  pub is : IsQuestion file question
  pub are : tables ≡ sheet_tables file question

-- of a list so many entries stay, or all where it has no more
pub record CutsList (count : ℕ) (old new : File) : Type 0 where
  pub by : (fs : List Frame) → Taken fs → old ≡ file_of fs
      → new ≡ file_of (take (before_list fs + count) fs)
