-- What preparing leaves in both areas.
use Rattle.std.specs.Prelude.{◌≡◌, refl, List, ℕ, min, length}
use Rattle.std.proofs.Common.{arith}
use Rattle.theory.proofs.SheetLaws.{rounds-unique}
use Rattle.meaning.specs.Lite.{lite}
use Rattle.tables.specs.declared.collection.Refusal.{Refusal}
use Rattle.tables.specs.declared.collection.Refusal.TheVariants.{BadCount, BadTable, BadNumber}
use Rattle.index.specs.declared.lent.Lent.{Lent}
use Rattle.index.specs.declared.work.Found.{Found}
use Rattle.index.specs.declared.work.Found.TheVariants.{Contradiction, Spent, Needed}
use Rattle.index.specs.Works.{meant, Passes, HasAreas, LeavesFirst, LeavesSecond}
use Rattle.index.specs.Preparation.{Preparation, preparation, Fits, HasSheet, Left}
use Rattle.index.specs.Worked.{IsRefused, IsSettled}

pub refused-fits : (l : Lent) (area spare : ℕ) (e : Refusal) → IsRefused l area spare e → Fits (preparation l area spare) → ⊥
refused-fits l area spare BadCount h f = h.bad_count.0 refl f.counts
refused-fits l area spare BadTable h f = (h.bad_table.0 refl).tables f.tables
refused-fits l area spare BadNumber h f = (h.bad_number.0 refl).numbers f.numbers

pub fits : (l : Lent) (area spare : ℕ) → Passes l.collection → HasAreas area spare → Fits (preparation l area spare)
fits l area spare s a =
    record { counts = s.counts; tables = record { tables = s.tables; area = a.area; spare = a.spare }; numbers = s.numbers }

module _ (l : Lent) (area spare x y : List ℕ) where
  abbrev p : Preparation
  p = preparation l (length area) (length spare)

  has : {f : Found} → IsSettled l (length area) (length spare) f → Fits p
  has s = fits l (length area) (length spare) s.passes s.areas

  pub left-found : (f : Found) → IsSettled l (length area) (length spare) f → LeavesFirst l f area x → LeavesSecond f spare y
      → Left p area spare x y
  left-found Contradiction s h k = record {
    sheet = λ w. absurd (w.sane s.found);
    cleared = λ w. absurd (w.sane s.found);
    untouched = λ w. h;
    spared = λ w. k;
  }
  left-found Spent s h k =
      let b = s.found in
      let a : HasSheet p = record { fits = has s; sane = b.1.sane } in
      record {
        sheet = λ w n need.
            let e = rounds-unique (lite (meant l.collection)) n b.0 need b.1.needed in
            let d : min n l.allowance ≡ l.allowance = omega (arith, b.1.more) in
            rw d h;
        cleared = λ w. k;
        untouched = λ w. absurd (w a);
        spared = λ w. absurd (w a);
      }
  left-found (Needed m r) s h k =
      let b = s.found in
      let a : HasSheet p = record { fits = has s; sane = b.sane } in
      record {
        sheet = λ w n need.
            let e = rounds-unique (lite (meant l.collection)) n m need b.needed in
            let d : min n l.allowance ≡ m = omega (arith, b.allowed) in
            rw d h;
        cleared = λ w. k;
        untouched = λ w. absurd (w a);
        spared = λ w. absurd (w a);
      }

  pub left-refused : (e : Refusal) → IsRefused l (length area) (length spare) e → x ≡ area → y ≡ spare → Left p area spare x y
  left-refused e h i j =
      let no : HasSheet p → ⊥ = λ s. refused-fits l (length area) (length spare) e h s.fits in
      record { sheet = λ w. absurd (no w); cleared = λ w. absurd (no w); untouched = λ w. i; spared = λ w. j }
