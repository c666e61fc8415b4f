-- The collection of a file that was read, and that of its sheet: what is lent of the sheet passes the tests and means it, and it is a
-- contradiction or not.
use Rattle.std.specs.Prelude.{◌≡◌, ◌≢◌, ◌<◌, refl, Bool, true, false, List, [], length}
use Rattle.std.proofs.Common.{ap, ap₂, arith}
use Rattle.kinds.specs.declared.Counts.{Counts}
use Rattle.kinds.specs.Kinds.{CountsFit}
use Rattle.meaning.specs.Collection.{Collection, WellFormed}
use Rattle.meaning.specs.Lent.{Tables, collection, ShapesOk, NumbersFit}
use Rattle.meaning.specs.Model.{Contradiction}
use Rattle.meaning.proofs.Reply.{clash}
use Rattle.meaning.proofs.ClashLaws.{clash-is}
use Rattle.tables.specs.declared.collection.Collection as code
use Rattle.tables.specs.Lists.{lists}
use Rattle.expression.specs.Listed.{Listed}
use Rattle.frames.specs.declared.Frame.{Frame}
use Rattle.reading.specs.declared.File.{File}
use Rattle.reading.specs.File.{file_of, lent_tables, tables_of, IsQuestion}
use Rattle.reading.specs.Reads.{IsRead}
use Rattle.reading.specs.Reading.{Taken}
use Rattle.reading.specs.Tables.{declared_by}
use Rattle.reading.proofs.Accepted.{tables-ok, numbers-ok}
use Rattle.reading.proofs.Turns.{fitting}
use Rattle.index.specs.Works.{meant, Passes}
use Rattle.intake.specs.Held.{collection_held, sheet_tables, sheet_held}
use Rattle.intake.proofs.SheetLaws.{sifted-shapes, sifted-numbers}

file-ok : (fs : List Frame) → Taken fs → fs ≢ [] → (q : Listed) → IsQuestion (file_of fs) q
    → CountsFit (declared_by fs) × ShapesOk (tables_of fs q) × NumbersFit (declared_by fs) (tables_of fs q)
file-ok fs t n q is = (fitting fs t n, (tables-ok t q is 0).tables, numbers-ok t q is 0)

module _ (file : File) (read : IsRead file) (begun : 0 < file.lines) (q : Listed) (is : IsQuestion file q) where
  abbrev 𝓒 : Collection
  𝓒 = collection_held file q

  some : read.frames ≢ []
  some e =
      let n = ap (λ (f : File). f.lines) read.kept in
      let m = ap (λ (l : List Frame). length l) e in
      omega (arith, n, m)

  ok : CountsFit file.counts × ShapesOk (lent_tables file q) × NumbersFit file.counts (lent_tables file q)
  ok = rw read.kept (file-ok read.frames read.taken some q (rw read.kept at is))

  pub well : WellFormed 𝓒
  well = record { counts = ok.0; numbers = ok.2.declared }

  -- of its sheet
  abbrev sheet : Collection
  sheet = sheet_held file q

  abbrev its_tables : Tables
  its_tables = sheet_tables file q

  sheet-ok : CountsFit file.counts × ShapesOk its_tables × NumbersFit file.counts its_tables
  sheet-ok = (
    ok.0,
    sifted-shapes file.counts (lent_tables file q) file.salvages ok.1,
    sifted-numbers file.counts (lent_tables file q) file.salvages ok.2,
  )

  pub sheet-well : WellFormed sheet
  sheet-well = record { counts = sheet-ok.0; numbers = sheet-ok.2.declared }

  module _ (c : code.Collection) (counts : c.counts ≡ file.counts) (tables : lists c ≡ its_tables) where
    -- THEOREM: what is lent of it passes the tests,
    pub lent-passes : Passes c
    lent-passes = record { counts = rw counts sheet-ok.0; tables = rw tables sheet-ok.1; numbers = rw (counts, tables) sheet-ok.2 }

    -- THEOREM: and means it
    pub is-sheet : meant c ≡ sheet
    is-sheet = ap₂ (λ (k : Counts) (t : Tables). collection k t) counts tables

  -- THEOREM: it is a contradiction where it is not none
  pub broken : ((Contradiction sheet → ⊥) → ⊥) → Contradiction sheet
  broken not-sane = by (clash sheet) refl
    where
      by : (b : Bool) → clash sheet ≡ b → Contradiction sheet
      by true e = (clash-is sheet sheet-well).0 e
      by false e = absurd (not-sane (λ c. let d = (clash-is sheet sheet-well).1 c in cc))
