-- Laws of what a file that chooses salvage decides (docs/RULES.md, section 13).
use Rattle.std.specs.Prelude.{ℕ, ◌≡◌, ◌≢◌, ◌↔◌, Bool, true, List, [], ◌++◌, None, map}
use Rattle.meaning.specs.Collection.{Collection, WellFormed}
use Rattle.meaning.specs.Lent.{collection}
use Rattle.meaning.specs.Model.{Contradiction}
use Rattle.salvage.specs.Facts.{facts_among, with_facts, IsSalvage, salvaged, NamesAll, entries_of}
use Rattle.expression.specs.Listed.{Listed}
use Rattle.frames.specs.declared.Frame.{Frame}
use Rattle.reading.specs.Deeds.{SameButDeed, InStep}
use Rattle.reading.specs.File.{IsQuestionOf, file_of, tables_of}
use Rattle.reading.specs.Reading.{Taken}
use Rattle.reading.specs.Retained.{retained}
use Rattle.reading.specs.Salvage.{fact_in, kept_frames, dropped_lines, DropsFacts, Decides}
use Rattle.reading.specs.Tables.{asks, table, list_in, declared_by, salvages, typed_lines, rounds_allowed}

-- the collection that frames type with a question
abbrev pub typed_collection : List Frame → Listed → Collection
typed_collection fs q = collection (declared_by fs) (tables_of fs q)

-- where frames are taken, the numbers in it are declared
abbrev pub ReadFormed : Type 0
ReadFormed = (fs : List Frame) → Taken fs → fs ≢ [] → (q : Listed) → IsQuestionOf fs q
    → WellFormed (typed_collection fs q)

-- its facts are those of the frames
abbrev pub FactsRead : Type 0
FactsRead = (fs : List Frame) (q : Listed)
    → with_facts (typed_collection fs q) (facts_among (map fact_in fs)) ≡ typed_collection fs q

-- what the lines before the list type names all of them,
abbrev pub TypedNamesAll : Type 0
TypedNamesAll = (fs : List Frame) (q : Listed) → let 𝓒 = typed_collection fs q in
    NamesAll (typed_lines fs) 𝓒.concept-facts 𝓒.role-facts

-- and the entries that it makes of them are those of the frames, and behind them stand those of the
-- list
abbrev pub EntriesRead : Type 0
EntriesRead = (fs : List Frame) → Taken fs → (q : Listed)
    → map fact_in fs
    ≡ entries_of (typed_collection fs q) (typed_lines fs) ++ map (λ entry. None) (list_in fs)

-- so the salvage of these entries decides
abbrev pub SalvageDecides : Type 0
SalvageDecides = (fs : List Frame) → Taken fs → (q : Listed) → salvages fs ≡ true
    → (marks : List Bool)
    → IsSalvage (typed_collection fs q) (entries_of (typed_collection fs q) (typed_lines fs)) marks
    → Decides fs q (dropped_lines fs marks) (kept_frames fs marks)

-- and drops nothing but facts
abbrev pub SalvageDropsFacts : Type 0
SalvageDropsFacts = (fs : List Frame) → Taken fs → (q : Listed) → (marks : List Bool)
    → IsSalvage (typed_collection fs q) (entries_of (typed_collection fs q) (typed_lines fs)) marks
    → DropsFacts fs marks

-- frames that are taken decide one thing,
abbrev pub DecidesSome : Type 0
DecidesSome = (fs : List Frame) → Taken fs → (q : Listed) → IsQuestionOf fs q
    → (dropped : List ℕ) × (gs : List Frame) × Decides fs q dropped gs

-- and no frames decide two
abbrev pub DecidesOnce : Type 0
DecidesOnce = (fs : List Frame) (q : Listed) (dropped others : List ℕ) (gs hs : List Frame)
    → Decides fs q dropped gs → Decides fs q others hs → (dropped ≡ others) × (gs ≡ hs)

-- frames that differ only in deed numbers drop the same lines, and keep what differs only so
abbrev pub DecidesWithoutDeeds : Type 0
DecidesWithoutDeeds = (fs gs : List Frame) → InStep SameButDeed fs gs
    → (q : Listed) (dropped : List ℕ) (hs : List Frame) → Decides fs q dropped hs
    → (is : List Frame) × InStep SameButDeed hs is × Decides gs q dropped is

-- the frames over which a file is answered are taken one after the other
abbrev pub DecidesTaken : Type 0
DecidesTaken = (fs : List Frame) → Taken fs → (q : Listed) (dropped : List ℕ) (gs : List Frame)
    → Decides fs q dropped gs → Taken gs

-- and they say what the file says of all but its facts
pub record SameButFacts (fs gs : List Frame) : Type 0 where
  pub declared : declared_by gs ≡ declared_by fs
  pub question : (q : Listed) → IsQuestionOf fs q ↔ IsQuestionOf gs q
  pub asks : table asks gs ≡ table asks fs
  pub allowance : rounds_allowed gs ≡ rounds_allowed fs
  pub list : list_in gs ≡ list_in fs
  pub choice : salvages gs ≡ salvages fs

abbrev pub DecidesSays : Type 0
DecidesSays = (fs : List Frame) → Taken fs → (q : Listed) (dropped : List ℕ) (gs : List Frame)
    → Decides fs q dropped gs → SameButFacts fs gs

-- the collection of the frames that are kept is that of the kept facts
abbrev pub KeptSalvaged : Type 0
KeptSalvaged = (fs : List Frame) → Taken fs → (q : Listed) (marks : List Bool)
    → DropsFacts fs marks
    → typed_collection (kept_frames fs marks) q
    ≡ salvaged (typed_collection fs q) (map fact_in fs) marks

-- and makes no contradiction, where salvage is chosen
abbrev pub DecidesSane : Type 0
DecidesSane = (fs : List Frame) → Taken fs → (q : Listed) (dropped : List ℕ) (gs : List Frame)
    → salvages fs ≡ true → Decides fs q dropped gs → ¬ Contradiction (typed_collection gs q)

-- frames that are taken are taken without facts that they drop, and what is held of them is then
-- what was held without these facts
abbrev pub KeptTaken : Type 0
KeptTaken = (fs : List Frame) → Taken fs → (marks : List Bool) → DropsFacts fs marks
    → Taken (kept_frames fs marks)

abbrev pub KeptHeld : Type 0
KeptHeld = (fs : List Frame) → Taken fs → (marks : List Bool) → DropsFacts fs marks
    → retained (file_of fs) marks ≡ file_of (kept_frames fs marks)
