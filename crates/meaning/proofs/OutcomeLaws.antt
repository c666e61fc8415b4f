-- A library input has only one outcome: answer, count and both areas.
use Rattle.std.specs.Prelude.{◌≡◌, List, ℕ}
use Rattle.std.proofs.Math.Path.{refl}
use Rattle.std.proofs.Common.{sym, ap, ◌∙◌, arith}
use borrow.Author.Tests.{lt-ltb, le-ltb}
use Rattle.kinds.specs.declared.Answer.{Answer}
use Rattle.kinds.specs.declared.Answer.TheVariants.{No, Yes}
use Rattle.laws.specs.Truth.{test-fails}
use Rattle.theory.proofs.SheetLaws.{rounds-unique}
use Rattle.meaning.specs.Lite.{lite}
use Rattle.meaning.specs.Lent.{Call, collection_of}
use Rattle.meaning.proofs.LayoutLaws.{lays-once}
use Rattle.meaning.specs.Outcome.{Outcome, bad-count, bad-table, bad-number, bad-ask, contradiction, spent, says-yes, says-no}
use Rattle.meaning.proofs.Calculate.{after_rounds, after_clash, sound_answer, after_numbers, after_tables, after_counts, answer, sheet_area, area_after, spare_after}
use Rattle.meaning.proofs.CalculateLaws.{counts-test, tables-test, numbers-test, ask-test}
use Rattle.meaning.proofs.OutcomeExists.{clash-test, yes-test, rounds-needed, holds-sheet, passes-all}
use Rattle.meaning.proofs.LiteSheet.{lite_work}

module _ (c : Call) where
  -- each outcome has the answer that is computed
  outcome-answer : {r : Answer} {x y : List ℕ} → Outcome c r x y → r ≡ answer c
  unfolding answer after_counts after_tables after_numbers sound_answer after_clash after_rounds
  outcome-answer (bad-count h) = rw (test-fails (counts-test c.counts) h)
  outcome-answer (bad-table k h) = rw ((counts-test c.counts).1 k, test-fails (tables-test c) h)
  outcome-answer (bad-number k t h) = rw ((counts-test c.counts).1 k, (tables-test c).1 t, test-fails (numbers-test c) h)
  outcome-answer (bad-ask k t n h) = rw ((counts-test c.counts).1 k, (tables-test c).1 t, (numbers-test c).1 n, test-fails (ask-test c) h)
  outcome-answer (contradiction s h) = rw (passes-all c s, (clash-test c s).1 h)
  outcome-answer (spent {n = n} s sane need h lays) =
      let e = rounds-unique (lite (collection_of c)) n (lite_work (collection_of c)).0 need (rounds-needed c s) in
      rw (passes-all c s, test-fails (clash-test c s) sane, lt-ltb c.allowance (lite_work (collection_of c)).0 (omega arith))
  outcome-answer (says-yes {n = n} s sane need h lays reached) =
      let e = rounds-unique (lite (collection_of c)) n (lite_work (collection_of c)).0 need (rounds-needed c s) in
      rw (passes-all c s, test-fails (clash-test c s) sane, le-ltb c.allowance (lite_work (collection_of c)).0 (omega arith), (yes-test c s).1 reached) (ap Yes e)
  outcome-answer (says-no {n = n} s sane need h lays missed) =
      let e = rounds-unique (lite (collection_of c)) n (lite_work (collection_of c)).0 need (rounds-needed c s) in
      rw (passes-all c s, test-fails (clash-test c s) sane, le-ltb c.allowance (lite_work (collection_of c)).0 (omega arith), test-fails (yes-test c s) missed) (ap No e)

  -- the answer decides both areas
  outcome-areas : {r : Answer} {x y : List ℕ} → Outcome c r x y → (x ≡ area_after c r) × (y ≡ spare_after c r)
  outcome-areas (bad-count h) = (refl, refl)
  outcome-areas (bad-table k h) = (refl, refl)
  outcome-areas (bad-number k t h) = (refl, refl)
  outcome-areas (bad-ask k t n h) = (refl, refl)
  outcome-areas (contradiction s h) = (refl, refl)
  outcome-areas (spent {area = x} s sane need h lays) = (lays-once _ x (sheet_area c c.allowance) lays (holds-sheet c s c.allowance), refl)
  outcome-areas (says-yes {n = n} {area = x} s sane need h lays reached) = (lays-once _ x (sheet_area c n) lays (holds-sheet c s n), refl)
  outcome-areas (says-no {n = n} {area = x} s sane need h lays missed) = (lays-once _ x (sheet_area c n) lays (holds-sheet c s n), refl)

  -- THEOREM: two outcomes of one library input are equal: answer, count and every byte of both areas
  pub outcome-unique : {r r' : Answer} {x x' y y' : List ℕ} → Outcome c r x y → Outcome c r' x' y' → (r ≡ r') × (x ≡ x') × (y ≡ y')
  outcome-unique {r} {r'} o p =
      let e = outcome-answer o ∙ sym (outcome-answer p) in
      let a = outcome-areas o in
      let b = outcome-areas p in
      (e, a.0 ∙ ap (area_after c) e ∙ sym b.0, a.1 ∙ ap (spare_after c) e ∙ sym b.1)
