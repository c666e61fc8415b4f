-- The marks of rounds, as a listener is told them: of what was found, and of what rounds would still add.
use Rattle.std.specs.Prelude.{◌≡◌, refl, List, [], ◌++◌, ℕ, suc, ◌≤◌, ◌<◌, min, take, drop}
use Rattle.std.proofs.Common.{◌∙◌, arith}
use Rattle.std.proofs.Math.Decide.{dec_lt}
use Rattle.std.proofs.lemmas.List.{length-take, get_or-take, take-append-drop}
use Rattle.theory.specs.Listing.{Numbered, MarksByRound}
use Rattle.meaning.specs.Lite.{lite}
use Rattle.meaning.specs.Listing.{numbered_lite}
use Rattle.meaning.specs.Model as model
use Rattle.theory.specs.Sheet.{Unchanged}
use Rattle.meaning.proofs.Demands.{rounds-suffice}
use Rattle.meaning.proofs.ListingLaws.{lite-rounds}
use Rattle.theory.proofs.ListingLaws.{rounds-once}
use Rattle.theory.proofs.SheetLaws.{rounds-unique}
use Rattle.rules.specs.declared.rows.Rows.{Rows}
use Rattle.rules.specs.RowsOf.{RowsOf}
use Rattle.sheet.specs.declared.round_marks.RoundMarks.{RoundMarks}
use Rattle.sheet.specs.Ends.{Going}
use Rattle.sheet.specs.Telling.{ToldUpTo}
use Rattle.sheet.proofs.Mean.{unchanged_from, same_marks}
use Rattle.tables.specs.declared.collection.Refusal.{Refusal}
use Rattle.index.specs.declared.lent.Lent.{Lent}
use Rattle.index.specs.declared.work.Found.{Found}
use Rattle.index.specs.declared.work.Found.TheVariants.{Contradiction, Spent, Needed}
use Rattle.index.specs.Preparation.{Preparation, preparation}
use Rattle.index.specs.Marks.{MarksTold}
use Rattle.index.specs.Works.{meant, Passes, HasAreas, ByRound, RoundsOf, BeginsRounds}
use Rattle.index.specs.Worked.{IsRefused, IsSettled}
use Rattle.index.proofs.Areas.{fits, refused-fits}
use Rattle.index.proofs.Joined.{well}

-- the marks of all rounds begin with those of the first
module _ (𝓝 : Numbered) (k n : ℕ) (le : k ≤ n) (rounds all : List (List (𝓝.kind.State × 𝓝.kind.State × 𝓝.kind.Concept)))
    (a : MarksByRound 𝓝 k rounds) (b : MarksByRound 𝓝 n all) where
  rounds-begin : MarksByRound 𝓝 n (rounds ++ drop (suc k) all)
  rounds-begin =
      let e = rounds-once 𝓝 k rounds (take (suc k) all) a front in
      rw (e, take-append-drop (suc k) all) b
    where
      front : MarksByRound 𝓝 k (take (suc k) all)
      front = record {
        long = length-take (suc k) all ∙ omega (arith, b.long, le);
        each = λ j h. rw (get_or-take (suc k) all j [] (omega arith)) (b.each j (omega (arith, le)));
      }

-- a collection that passed its tests, and rows that say what it says
module _ (l : Lent) (p : Passes l.collection) (rows : Rows) (r : RowsOf (meant l.collection) rows) where
  pub by_round : (n : ℕ) (rounds : List RoundMarks) → ToldUpTo rows n rounds → ByRound (meant l.collection) n rounds
  by_round = same_marks (meant l.collection) p.counts rows r

  -- rounds that each changed the sheet are needed
  pub begins_of : (k : ℕ) (rounds : List RoundMarks) → Going rows l.allowance k → ToldUpTo rows k rounds
      → (model.Contradiction (meant l.collection) → ⊥)
      → BeginsRounds l rounds
  begins_of k rounds g t sane =
      let w = rounds-suffice (meant l.collection) (well l.collection p) in
      let m = min w.0 l.allowance in
      let few : k ≤ w.0 = side (dec_lt w.0 k) w.2.holds in
      let all = lite-rounds (meant l.collection) (well l.collection p) m in
      record {
        sane = sane;
        n = w.0;
        needed = w.2;
        rest = drop (suc k) all.0;
        all = rounds-begin (numbered_lite (meant l.collection)) k m (omega (arith, few, g.within)) rounds all.0 (by_round k rounds t) all.1;
      }
    where
      side : {n : ℕ} → Dec (n < k) → Unchanged (lite (meant l.collection)) n → k ≤ n
      side {n} (yes h) still = absurd (g.changing n h (unchanged_from (meant l.collection) p.counts rows r n still))
      side (no h) still = omega arith

module _ (l : Lent) (area spare : ℕ) where
  abbrev p : Preparation
  p = preparation l area spare

  -- THEOREM: what was told is what is to be told
  pub told-found : (f : Found) → IsSettled l area spare f → (rounds : List RoundMarks) → RoundsOf l f rounds → MarksTold p rounds
  told-found Contradiction s rounds h = record { marks = λ w. absurd (w.sane s.found); none = λ no. h }
  told-found Spent s counts h =
      let b = s.found in
      record {
        marks = λ w n need.
            let e = rounds-unique (lite (meant l.collection)) n b.0 need b.1.needed in
            let d : min n l.allowance ≡ l.allowance = omega (arith, b.1.more) in
            rw d h;
        none = λ no. absurd (no (record { fits = fits l area spare s.passes s.areas; sane = b.1.sane }));
      }
  told-found (Needed m r) s counts h =
      let b = s.found in
      record {
        marks = λ w n need.
            let e = rounds-unique (lite (meant l.collection)) n m need b.needed in
            let d : min n l.allowance ≡ m = omega (arith, b.allowed) in
            rw d h;
        none = λ no. absurd (no (record { fits = fits l area spare s.passes s.areas; sane = b.sane }));
      }

  pub told-refused : (e : Refusal) → IsRefused l area spare e → MarksTold p []
  told-refused e h = record { marks = λ w. absurd (refused-fits l area spare e h w.fits); none = λ no. refl }

  -- THEOREM: and where the listener failed, what was told is a start of it
  pub begun : Passes l.collection → HasAreas area spare → (rounds : List RoundMarks) → (b : BeginsRounds l rounds)
      → MarksTold p (rounds ++ b.rest)
  begun passes areas rounds b = record {
    marks = λ w n need. let e = rounds-unique (lite (meant l.collection)) n b.n need b.needed in rw e b.all;
    none = λ no. absurd (no (record { fits = fits l area spare passes areas; sane = b.sane }));
  }
