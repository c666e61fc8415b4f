-- What is worked out of a collection, and what it answers, depends on no deed number.
use Rattle.std.specs.Prelude.{◌≡◌, List, ℕ, zero, suc, min}
use Rattle.std.proofs.Common.{subst, sym}
use Rattle.kinds.specs.declared.Answer.{Answer}
use Rattle.kinds.specs.declared.Ask.{Ask}
use Rattle.laws.specs.First.{fails, holds}
use Rattle.meaning.specs.Lent.{Tables, TablesFit, NumbersFit}
use Rattle.meaning.specs.Deeds.{SameButDeeds}
use Rattle.meaning.specs.Layout.{Lays}
use Rattle.meaning.specs.Model.{Contradiction}
use Rattle.meaning.specs.Lite.{lite}
use Rattle.meaning.specs.Listing.{numbered_lite}
use Rattle.meaning.proofs.DeedLaws.{one-collection, turned, shapes_kept, deeds-decide-nothing}
use Rattle.theory.specs.Listing.{MarksByRound}
use Rattle.theory.specs.Sheet as sheet
use Rattle.sheet.specs.declared.round_marks.RoundMarks.{RoundMarks}
use Rattle.index.specs.Preparation.{Preparation, with_tables, WhateverDeeds, collection_in, HasSheet, RoundsNeeded, Left}
use Rattle.index.specs.Marks.{MarksTold}
use Rattle.index.specs.Rounds.{HasRounds, NoRounds}
use Rattle.index.specs.Asked.{asked, IsAnswer}
use Rattle.index.specs.Row.{InTurn, none, next}

-- tables that differ only in deed numbers pass the same tests
module _ (p : Preparation) (t : Tables) (s : SameButDeeds p.tables t) where
  tables-kept : TablesFit p.tables p.area p.spare → TablesFit t p.area p.spare
  tables-kept h = record { tables = shapes_kept s h.tables; area = h.area; spare = h.spare }

  numbers-kept : NumbersFit p.counts p.tables → NumbersFit p.counts t
  numbers-kept h = record { declared = rw (← one-collection p.counts p.tables t s) h.declared; step-kinds = rw (← s.steps) h.step-kinds }

  has-kept : HasSheet p → HasSheet (with_tables p t)
  has-kept h = record {
    fits = record { counts = h.fits.counts; tables = tables-kept h.fits.tables; numbers = numbers-kept h.fits.numbers };
    sane = rw (← one-collection p.counts p.tables t s) h.sane;
  }

module _ (p : Preparation) (t : Tables) (s : SameButDeeds p.tables t) where
  abbrev q : Preparation
  q = with_tables p t

  one : collection_in p ≡ collection_in q
  one = one-collection p.counts p.tables t s

  back : HasSheet q → HasSheet p
  back = has-kept q p.tables (turned s)

  forth : HasSheet p → HasSheet q
  forth = has-kept p t s

  need-back : (n : ℕ) → RoundsNeeded q n → RoundsNeeded p n
  need-back n h = subst (λ 𝓔. sheet.Needed (lite 𝓔) n) (sym one) h

  left : {area spare x y : List ℕ} → Left p area spare x y → Left q area spare x y
  left {x = x} l = record {
    sheet = λ h n need. subst (λ 𝓔. Lays (sheet.Mark (lite 𝓔) (min n p.allowance)) x) one (l.sheet (back h) n (need-back n need));
    cleared = λ h. l.cleared (back h);
    untouched = λ no. l.untouched (λ h. no (forth h));
    spared = λ no. l.spared (λ h. no (forth h));
  }

  told : {rounds : List RoundMarks} → MarksTold p rounds → MarksTold q rounds
  told {rounds} m = record {
    marks = λ h n need. subst (λ 𝓔. MarksByRound (numbered_lite 𝓔) (min n p.allowance) rounds) one (m.marks (back h) n (need-back n need));
    none = λ no. m.none (λ h. no (forth h));
  }

  has-rounds : {n : ℕ} → HasRounds p n → HasRounds q n
  has-rounds {n} h = record { sheet = forth h.sheet; needed = subst (λ 𝓔. sheet.Needed (lite 𝓔) n) one h.needed; allowed = h.allowed }

  no-rounds : {r : Answer} → NoRounds p r → NoRounds q r
  no-rounds (fails c) = fails c
  no-rounds (holds c (fails h)) = holds c (fails (λ w. h (tables-kept q p.tables (turned s) w)))
  no-rounds (holds c (holds h (fails m))) = holds c (holds (tables-kept p t s h) (fails (λ w. m (numbers-kept q p.tables (turned s) w))))
  no-rounds (holds c (holds h (holds m (fails k)))) =
      holds c (holds (tables-kept p t s h) (holds (numbers-kept p t s m) (fails (λ w. k (subst (λ 𝓔. Contradiction 𝓔 → ⊥) (sym one) w)))))
  no-rounds (holds c (holds h (holds m (holds k w)))) =
      holds c (holds (tables-kept p t s h) (holds (numbers-kept p t s m)
      (holds (subst (λ 𝓔. Contradiction 𝓔 → ⊥) one k) (w.0, (w.1.0, subst (λ 𝓔. sheet.Needed (lite 𝓔) w.1.0) one w.1.1, w.1.2)))))

  answer : {ask : Ask} {r : Answer} → IsAnswer p ask r → IsAnswer q ask r
  answer {ask} {r} h x y e f =
      let w = h x y e f in
      (w.0, w.1, (deeds-decide-nothing (asked p ask x y) t s r w.0 w.1).0 w.2)

  turn : {ask : ℕ → Ask} {tells : ℕ → Answer → Type 0} {area spare : List ℕ} (n : ℕ) {x y : List ℕ} → InTurn p ask tells area spare n x y
      → InTurn q ask tells area spare n x y
  turn zero none = none
  turn {ask} (suc n) (next {x = x} {y = y} {u = u} {v = v} r a h o) =
      next r (turn n a) h ((deeds-decide-nothing (asked p (ask n) x y) t s r u v).0 o)

module _ (p : Preparation) where
  -- THEOREM: what is left in both areas
  pub left-whatever : {area spare x y : List ℕ} → Left p area spare x y → WhateverDeeds p (λ q. Left q area spare x y)
  left-whatever l t s = left p t s l

  -- THEOREM: what a listener is told
  pub told-whatever : {rounds : List RoundMarks} → MarksTold p rounds → WhateverDeeds p (λ q. MarksTold q rounds)
  told-whatever m t s = told p t s m

  -- THEOREM: whether there are rounds needed that are allowed
  pub rounds-whatever : {n : ℕ} → HasRounds p n → WhateverDeeds p (λ q. HasRounds q n)
  rounds-whatever h t s = has-rounds p t s h

  pub none-whatever : {r : Answer} → NoRounds p r → WhateverDeeds p (λ q. NoRounds q r)
  none-whatever h t s = no-rounds p t s h

  -- THEOREM: an answer
  pub answer-whatever : {ask : Ask} {r : Answer} → IsAnswer p ask r → WhateverDeeds p (λ q. IsAnswer q ask r)
  answer-whatever h t s = answer p t s h

  -- THEOREM: a row of answers
  pub turn-whatever : {ask : ℕ → Ask} {tells : ℕ → Answer → Type 0} {area spare : List ℕ} (n : ℕ) {x y : List ℕ}
      → InTurn p ask tells area spare n x y
      → WhateverDeeds p (λ q. InTurn q ask tells area spare n x y)
  turn-whatever n a t s = turn p t s n a
