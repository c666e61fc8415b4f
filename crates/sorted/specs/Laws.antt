-- Laws of collections that are the same as sets, and of records in order.
use Rattle.std.specs.Prelude.{◌≡◌, ◌↔◌, ◌<◌, ℕ, List}
use Rattle.kinds.specs.declared.Answer.{Answer}
use Rattle.meaning.specs.Lent.{Tables, Call, ShapesOk}
use Rattle.meaning.specs.Deeds.{lent_with}
use Rattle.meaning.specs.Outcome.{Outcome}
use Rattle.meaning.specs.SameSets.{SameSets}
use Rattle.sorted.specs.Rows.{SameRecords, IsTidied}
use Rattle.sorted.specs.Same.{SameTables}

-- tables with the same records, where test 5 refuses neither, are the same to the library
abbrev pub SameToTheLibrary : Type 0
SameToTheLibrary = (c : Call) (t : Tables) → ShapesOk c.tables → ShapesOk t
    → SameTables c.tables t → SameSets c t

-- and a call with either has the outcome of the other: answer, count and every byte of both areas
abbrev pub AnsweredAlike : Type 0
AnsweredAlike = (c : Call) (t : Tables) → ShapesOk c.tables → ShapesOk t → SameTables c.tables t
    → (r : Answer) (x y : List ℕ) → Outcome c r x y ↔ Outcome (lent_with c t) r x y

-- what two tables come to, in order and each once, is equal exactly where they have the same
-- records
abbrev pub TidiedAlike : Type 0
TidiedAlike = (width : ℕ) → 0 < width → (t u v w : List ℕ)
    → IsTidied width t v → IsTidied width u w → (v ≡ w) ↔ SameRecords width t u
