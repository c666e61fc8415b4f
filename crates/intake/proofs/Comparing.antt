-- What a comparison comes to where the marks of a file's closed sheet are told to it.
use Rattle.std.specs.Prelude.{ℕ, ◌^◌, ◌≡◌, ◌≤◌, ◌<◌, true, false, List, [], ◌∷◌, ◌++◌, map, length}
use Rattle.std.specs.declared.io.Error.{Error}
use Rattle.std.proofs.Common.{ap, arith, length-append}
use Rattle.theory.specs.Listing.{entries_of}
use Rattle.meaning.specs.Collection.{Collection, WellFormed}
use Rattle.meaning.specs.Listing.{numbered_lite}
use Rattle.meaning.specs.Model.{Contradiction}
use Rattle.streams.specs.Input.{Input, left_of}
use Rattle.sheet.specs.declared.round_marks.RoundMarks.{RoundMarks}
use Rattle.sheet.specs.Heard.{ToldOf, FailedAmong}
use Rattle.expression.specs.Listed.{Listed}
use Rattle.reading.specs.declared.File.{File}
use Rattle.reading.specs.File.{IsQuestion}
use Rattle.reading.specs.Tables.{Entry, most_listed}
use Rattle.index.specs.Marks.{SheetTold}
use Rattle.index.proofs.ToldWhole.{sheet-listed}
use Rattle.intake.specs.declared.comparison.Stop.{Stop}
use Rattle.intake.specs.declared.comparison.Stop.TheVariants.{Departs}
use Rattle.intake.specs.Compared.{IsCompared}
use Rattle.intake.specs.Entries.{entry_line}
use Rattle.intake.specs.Held.{sheet_held}
use Rattle.intake.specs.Next.{TakesLines, TakesAll, StopsAmong}
use Rattle.intake.proofs.ComparedLaws.{compared-whole, compared-part}
use Rattle.intake.proofs.EntriesFit.{few-entries}
use Rattle.intake.proofs.SheetLaws.{sheet-listing, sheet-sane}
use Rattle.intake.proofs.ToldLaws.{entries-lines, Hears, told-all, Fails, told-some}

module _ (file : File) (q : Listed) (is : IsQuestion file q) (ok : WellFormed (sheet_held file q)) where
  abbrev 𝓒 : Collection
  𝓒 = sheet_held file q

  abbrev its : List RoundMarks → List Entry
  its rounds = entries_of (numbered_lite 𝓒) rounds

  few : (Contradiction 𝓒 → ⊥) → (rounds : List RoundMarks) → SheetTold 𝓒 rounds → length (its rounds) < 2 ^ 64
  few sane rounds told =
      let h : length (its rounds) ≤ most_listed = few-entries 𝓒 ok (its rounds) (sheet-listed 𝓒 ok rounds told sane) in
      omega arith

  module _ {L : Type 0} (name : L → ℕ) (input : L → Input) (count : L → ℕ) (from : L) (zero : count from ≡ 0) (to : L) where
    abbrev Told-to : Type 0
    Told-to = ToldOf (Hears name input count) (SheetTold 𝓒) from to

    pub named : Told-to → name to ≡ name from
    named (rounds, told, heard) = (told-all name input count from heard).0

    -- where there is a sheet, all of its listing was right
    pub whole-compared : (Contradiction 𝓒 → ⊥) → Told-to
        → IsCompared file (input from) (input to) (record { right = count to; is_whole = true })
    whole-compared sane (rounds, told, heard) =
        let lines = entries-lines 𝓒 0 rounds in
        let took : TakesAll (input from) (input to) 0 (count to) (map entry_line (its rounds)) =
        rw (zero, ← lines) at ((told-all name input count from heard).1) in
        record {
          question = q;
          is = is;
          looked_at = sheet-sane file q sane;
          listing = its rounds;
          lists = sheet-listing file q (its rounds) (sheet-listed 𝓒 ok rounds told sane);
          so = compared-whole (its rounds) (few sane rounds told) took;
        }

    -- where there is none, nothing was told
    pub nothing-taken : Contradiction 𝓒 → Told-to → TakesLines (left_of (input from)) (left_of (input to)) []
    nothing-taken broken (rounds, told, heard) = (rw (told.none broken) at ((told-all name input count from heard).1)).taken

    module _ (fails : Error → Type 0) where
      abbrev Failed-at : Stop → Type 0
      Failed-at stop = FailedAmong (Hears name input count) (Fails name input count fails) (SheetTold 𝓒) from stop to

      pub named-at : (stop : Stop) → Failed-at stop → name to ≡ name from
      named-at stop (rounds, rest, told, heard) = (told-some name input count from fails rounds rest stop to heard).0

      -- where it stopped, a part of the listing was right
      pub part-compared : Failed-at Departs → IsCompared file (input from) (input to) (record { right = count to; is_whole = false })
      part-compared (rounds, rest, told, heard) =
          let lines = entries-lines 𝓒 0 (rounds ++ rest) in
          let took : StopsAmong (input from) (input to) 0 (count to) (map entry_line (its (rounds ++ rest))) =
          rw (zero, ← lines) at ((told-some name input count from fails rounds rest Departs to heard).1) in
          record {
            question = q;
            is = is;
            looked_at = sheet-sane file q sane;
            listing = its (rounds ++ rest);
            lists = sheet-listing file q (its (rounds ++ rest)) (sheet-listed 𝓒 ok (rounds ++ rest) told sane);
            so = compared-part (its (rounds ++ rest)) (few sane (rounds ++ rest) told) took;
          }
        where
          sane : Contradiction 𝓒 → ⊥
          sane broken =
              let l = ap (λ (l : List RoundMarks). length l) (told.none broken) in
              let m = ap (λ (l : List RoundMarks). length l) heard.all in
              omega (arith, l, m, length-append rounds rest, length-append heard.before (heard.last ∷ []))
