-- The outcome of a call: an ask that is not declared, and a preparation's reply to one that is.
use Rattle.std.specs.Prelude.{◌≡◌, refl, List, ℕ, min, Result, Ok, Err, length}
use Rattle.std.proofs.Common.{subst, arith}
use Rattle.kinds.specs.declared.Answer.{Answer}
use Rattle.kinds.specs.declared.Answer.TheVariants as answer
use Rattle.meaning.specs.Lent.{Sound}
use Rattle.meaning.specs.Outcome.{Outcome, Breaks, bad-count, bad-table, bad-number, bad-ask, contradiction, spent, says-yes, says-no}
use Rattle.tables.specs.declared.collection.Refusal.{Refusal}
use Rattle.tables.specs.declared.collection.Refusal.TheVariants.{BadCount, BadTable, BadNumber}
use Rattle.tables.specs.Refusals.{answer_of}
use Rattle.tables.specs.Tests.{PassesTests, IsChecked}
use Rattle.kinds.specs.declared.Ask.{Ask}
use Rattle.index.specs.declared.lent.Lent.{Lent}
use Rattle.index.specs.Works.{Passes, HasAreas}
use Rattle.index.specs.Preparation.{Preparation, preparation, HasSheet, Left}
use Rattle.kinds.specs.Asks.{AskDeclared}
use Rattle.index.specs.Asked.{asked, IsAnswer}
use Rattle.index.specs.Clauses.{called, Refuses}

module _ (l : Lent) (area spare : ℕ) where
  abbrev pub Tested : Result (Unit {0}) Refusal → Type 0
  Tested r = IsChecked l.collection area spare r

  passed-refuses : Tested (Ok tt) → Refuses l area spare answer.BadAsk
  passed-refuses h ask x y e f none = let w = h.ok.0 refl in bad-ask w.counts (rw (e, f) w.tables) w.numbers none

  error-refuses : (e : Refusal) → Tested (Err e) → Refuses l area spare (answer_of e)
  error-refuses BadCount h ask x y e f none = bad-count (h.bad_count.0 refl)
  error-refuses BadTable h ask x y e f none = let w = h.bad_table.0 refl in bad-table w.counts (rw (e, f) w.tables)
  error-refuses BadNumber h ask x y e f none = let w = h.bad_number.0 refl in bad-number w.counts (rw (e, f) w.tables) w.numbers

  pub ok-refuses : {r : Result (Unit {0}) Refusal} {u : Unit {0}} → Tested r → r ≡ Ok u → Refuses l area spare answer.BadAsk
  ok-refuses h e = passed-refuses (subst (λ r. Tested r) e h)

  pub err-refuses : {r : Result (Unit {0}) Refusal} {e : Refusal} → Tested r → r ≡ Err e → Refuses l area spare (answer_of e)
  err-refuses {e = e} h q = error-refuses e (subst (λ r. Tested r) q h)

-- a collection that passed its tests
module _ (l : Lent) (area spare : ℕ) {r : Result (Unit {0}) Refusal} {u : Unit {0}} (h : Tested l area spare r) (e : r ≡ Ok u) where
  all : PassesTests l.collection area spare
  all = (subst (λ r. Tested l area spare r) e h).ok.0 refl

  pub passes : Passes l.collection
  passes = record { counts = all.counts; tables = all.tables.tables; numbers = all.numbers }

  pub has_areas : HasAreas area spare
  has_areas = record { area = all.tables.area; spare = all.tables.spare }

module _ (p : Preparation) (area spare x y : List ℕ) (left : Left p area spare x y) (e : length area ≡ p.area)
    (f : length spare ≡ p.spare) where
  has : {ask : Ask} → Sound (asked p ask area spare) → (Breaks (asked p ask area spare) → ⊥) → HasSheet p
  has s k = record { fits = record { counts = s.counts; tables = rw (← e, ← f) s.tables; numbers = s.numbers }; sane = k }

  -- THEOREM: a declared ask's answer, and the areas as they were prepared, are its outcome
  pub areas : (ask : Ask) (r : Answer) (u v : List ℕ) → AskDeclared p.counts ask → Outcome (asked p ask area spare) r u v
      → Outcome (asked p ask area spare) r x y
  areas ask r u v d (bad-count h) = rw (left.untouched (λ s. h s.fits.counts), left.spared (λ s. h s.fits.counts)) (bad-count h)
  areas ask r u v d (bad-table k h) = let no : HasSheet p
      → ⊥ = λ s. h (rw (e, f) s.fits.tables) in rw (left.untouched no, left.spared no) (bad-table k h)
  areas ask r u v d (bad-number k t h) = let no : HasSheet p
      → ⊥ = λ s. h s.fits.numbers in rw (left.untouched no, left.spared no) (bad-number k t h)
  areas ask r u v d (bad-ask k t n h) = absurd (h d)
  areas ask r u v d (contradiction s k) = let no : HasSheet p
      → ⊥ = λ t. t.sane k in rw (left.untouched no, left.spared no) (contradiction s k)
  areas ask r u v d (spent {n = n} s k need h lays) =
      let w = has {ask = ask} s k in
      let g : min n p.allowance ≡ p.allowance = omega arith in
      let z = left.sheet w n need in
      rw (left.cleared w) (spent s k need h (rw g at z))
  areas ask r u v d (says-yes {n = n} s k need h lays q) =
      let w = has {ask = ask} s k in
      let g : min n p.allowance ≡ n = omega arith in
      let z = left.sheet w n need in
      rw (left.cleared w) (says-yes s k need h (rw g at z) q)
  areas ask r u v d (says-no {n = n} s k need h lays q) =
      let w = has {ask = ask} s k in
      let g : min n p.allowance ≡ n = omega arith in
      let z = left.sheet w n need in
      rw (left.cleared w) (says-no s k need h (rw g at z) q)

  -- THEOREM: a reply to a declared ask, and the areas as they were prepared, are the outcome
  pub replied : (ask : Ask) (r : Answer) → AskDeclared p.counts ask → IsAnswer p ask r → Outcome (asked p ask area spare) r x y
  replied ask r d h = let w = h area spare e f in areas ask r w.0 w.1 d w.2

-- the same of a preparation that is known to be equal
pub replied-as : (l : Lent) (area spare x y : List ℕ) (q : Preparation) → q ≡ preparation l (length area) (length spare)
    → Left q area spare x y
    → (ask : Ask) (r : Answer) → AskDeclared l.collection.counts ask → IsAnswer q ask r → Outcome (called l ask area spare) r x y
replied-as l area spare x y q own left ask r d h =
    let p = preparation l (length area) (length spare) in
    replied p area spare x y (subst (λ (q : Preparation). Left q area spare x y) own left) refl refl ask r d
    (subst (λ (q : Preparation). IsAnswer q ask r) own h)
