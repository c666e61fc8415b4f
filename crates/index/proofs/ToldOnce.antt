-- What a listener is told of a preparation: the marks of rounds, in one way; and how many they are, which with states × concepts
-- make the sheet that is left.
use Rattle.std.specs.Prelude.{◌≡◌, refl, List, [], ℕ, ◌≤◌, min, length}
use Rattle.std.proofs.Common.{sym, ap, ◌∙◌, arith}
use Rattle.laws.specs.Once.{AtMostOne}
use Rattle.meaning.specs.Lite.{lite}
use Rattle.meaning.specs.Listing.{numbered_lite}
use Rattle.meaning.specs.Demands.{most_rounds}
use Rattle.meaning.proofs.Demands.{rounds-suffice}
use Rattle.meaning.proofs.LiteMarks.{lite-most, area-stands}
use Rattle.meaning.proofs.ListingLaws.{lite-rounds}
use Rattle.theory.specs.Listing.{counts_of}
use Rattle.theory.proofs.ListingLaws.{rounds-once, counts-by-round}
use Rattle.theory.proofs.MarksLaws.{round-counts-once}
use Rattle.theory.proofs.SheetLaws.{rounds-unique}
use Rattle.sheet.specs.declared.round_marks.RoundMarks.{RoundMarks}
use Rattle.index.specs.Preparation.{Preparation, collection_in, HasSheet, HoldsPrepared}
use Rattle.index.specs.Marks.{MarksTold, CountsTold, CountsOfMarks, MakesSheet, MarksStand, ToldAtMost}
use Rattle.index.proofs.Unique.{well, dec-sheet}

module _ (p : Preparation) where
  -- THEOREM: two tellings are equal
  pub told-once : AtMostOne (MarksTold p)
  told-once x y a b = by (dec-sheet p)
    where
      by : Dec (HasSheet p) → x ≡ y
      by (yes s) =
          let w = rounds-suffice (collection_in p) (well p s.fits) in
          rounds-once (numbered_lite (collection_in p)) (min w.0 p.allowance) x y (a.marks s w.0 w.2) (b.marks s w.0 w.2)
      by (no n) = a.none n ∙ sym (b.none n)

  -- THEOREM: there is one
  pub told-there : (rounds : List RoundMarks) × MarksTold p rounds
  told-there = by (dec-sheet p)
    where
      by : Dec (HasSheet p) → (rounds : List RoundMarks) × MarksTold p rounds
      by (yes s) =
          let w = rounds-suffice (collection_in p) (well p s.fits) in
          let r = lite-rounds (collection_in p) (well p s.fits) (min w.0 p.allowance) in (
            r.0,
            record {
              marks = λ h n need. let e = rounds-unique (lite (collection_in p)) n w.0 need w.2 in rw e r.1;
              none = λ n. absurd (n s);
            },
          )
      by (no n) = ([], record { marks = λ s. absurd (n s); none = λ h. refl })

  -- THEOREM: how many marks of all rounds but round 0 are told
  pub told-counts : CountsOfMarks p
  told-counts rounds t = record {
    rounds = λ s n need. counts-by-round (numbered_lite (collection_in p)) (min n p.allowance) rounds (t.marks s n need);
    none = λ no. ap counts_of (t.none no);
  }

  -- THEOREM: so there is a row of counts,
  pub counts-there : (counts : List ℕ) × CountsTold p counts
  counts-there = let t = told-there in (counts_of t.0, told-counts t.0 t.1)

  -- THEOREM: and two are equal
  pub counts-once : AtMostOne (CountsTold p)
  counts-once x y a b = by (dec-sheet p)
    where
      by : Dec (HasSheet p) → x ≡ y
      by (yes s) =
          let w = rounds-suffice (collection_in p) (well p s.fits) in
          round-counts-once (lite (collection_in p)) (min w.0 p.allowance) x y (a.rounds s w.0 w.2) (b.rounds s w.0 w.2)
      by (no n) = a.none n ∙ sym (b.none n)

  -- THEOREM: with states × concepts they make the number of marks standing in the area that holds the sheet
  pub told-make : MakesSheet p
  told-make counts area t s n need lays = area-stands (collection_in p) (well p s.fits) (min n p.allowance) area lays counts
      (t.rounds s n need)

  -- THEOREM: an area that holds what was prepared has that many
  pub told-stand : (area : List ℕ) → HoldsPrepared p area → MarksStand p area
  told-stand area holds s counts t =
      let w = rounds-suffice (collection_in p) (well p s.fits) in
      told-make counts area t s w.0 w.2 (holds s w.0 w.2)

  -- THEOREM: there are no more of them than concepts × states × (states − 1), nor than rounds are allowed
  pub told-most : ToldAtMost p
  told-most counts t = by (dec-sheet p)
    where
      by : Dec (HasSheet p) → length counts ≤ min (most_rounds p.counts) p.allowance
      by (yes s) =
          let w = rounds-suffice (collection_in p) (well p s.fits) in
          let r = t.rounds s w.0 w.2 in
          let m = lite-most (collection_in p) (well p s.fits) w.0 w.2 (min w.0 p.allowance) (omega arith) counts r in
          omega (arith, m, r.long)
      by (no n) = let e = t.none n in rw e (omega arith)
