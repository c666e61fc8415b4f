-- The contracts leave one outcome: of `reply` one answer, of `prepare` one content of both areas, of a row of asks both.
use Rattle.std.specs.Prelude.{◌≡◌, refl, Bool, true, false, List, ℕ, zero, suc, ◌<◌, length, replicate}
use Rattle.std.proofs.Common.{sym, ◌∙◌, arith}
use Rattle.std.proofs.Math.Decide.{dec_lt}
use Rattle.std.proofs.lemmas.List.{length-replicate}
use Rattle.kinds.specs.declared.Answer.{Answer}
use Rattle.kinds.specs.Kinds.{individual}
use Rattle.meaning.specs.Collection.{WellFormed}
use Rattle.meaning.specs.Lent.{Call}
use Rattle.meaning.specs.Outcome.{Outcome, bad-count, bad-table, bad-number, bad-ask, contradiction, spent, says-yes, says-no}
use Rattle.meaning.proofs.OutcomeExists.{outcome-exists}
use Rattle.meaning.proofs.OutcomeLaws.{outcome-unique}
use Rattle.meaning.proofs.LayoutLaws.{lays-once}
use Rattle.meaning.proofs.Demands.{rounds-suffice}
use Rattle.meaning.proofs.Reply.{clash}
use Rattle.index.proofs.Replies.{fails}
use Rattle.meaning.proofs.ClashLaws.{clash-is}
use Rattle.kinds.specs.declared.Ask.{Ask}
use Rattle.kinds.specs.declared.Ask.TheVariants.{Pair}
use Rattle.index.specs.Preparation.{Preparation, collection_in, Fits, HasSheet, Left}
use Rattle.index.specs.Asked.{asked, IsAnswer}
use Rattle.index.specs.Row.{InTurn, none, next}
use Rattle.index.specs.Once.{SameAt}

-- THEOREM: two answers to one ask of one preparation are equal
pub answer-once : (p : Preparation) (ask : Ask) (r q : Answer) → IsAnswer p ask r → IsAnswer p ask q → r ≡ q
answer-once p ask r q h k =
    let x = replicate p.area 0 in
    let y = replicate p.spare 0 in
    let v = h x y (length-replicate _ _) (length-replicate _ _) in
    let w = k x y (length-replicate _ _) (length-replicate _ _) in
    (outcome-unique (asked p ask x y) v.2 w.2).0

module _ (p : Preparation) where
  abbrev x : List ℕ
  x = replicate p.area 0

  abbrev y : List ℕ
  y = replicate p.spare 0

  abbrev c : Call
  c = asked p (Pair (individual 0) (individual 0)) x y

  -- the tests 4, 5 and 6 pass or fail, as the outcome of any ask tells
  dec-fits : Dec (Fits p)
  dec-fits = by (outcome-exists c)
    where
      long : length x ≡ p.area
      long = length-replicate _ _

      long' : length y ≡ p.spare
      long' = length-replicate _ _

      by : {r : Answer} {u v : List ℕ} → Outcome c r u v → Dec (Fits p)
      by (bad-count h) = no (λ f. h f.counts)
      by (bad-table k h) = no (λ f. h (rw (long, long') f.tables))
      by (bad-number k t h) = no (λ f. h f.numbers)
      by (bad-ask k t n h) = yes (record { counts = k; tables = rw (← long, ← long') t; numbers = n })
      by (contradiction s h) = yes (record { counts = s.counts; tables = rw (← long, ← long') s.tables; numbers = s.numbers })
      by (spent s k need h lays) = yes (record { counts = s.counts; tables = rw (← long, ← long') s.tables; numbers = s.numbers })
      by (says-yes s k need h lays q) = yes (record { counts = s.counts; tables = rw (← long, ← long') s.tables; numbers = s.numbers })
      by (says-no s k need h lays q) = yes (record { counts = s.counts; tables = rw (← long, ← long') s.tables; numbers = s.numbers })

  pub well : Fits p → WellFormed (collection_in p)
  well f = record { counts = f.counts; numbers = f.numbers.declared }

  pub dec-sheet : Dec (HasSheet p)
  dec-sheet = by dec-fits
    where
      sane : Fits p → (b : Bool) → clash (collection_in p) ≡ b → Dec (HasSheet p)
      sane f true e = no (λ s. s.sane ((clash-is (collection_in p) (well f)).0 e))
      sane f false e = yes (record { fits = f; sane = fails (clash-is (collection_in p) (well f)) e })

      by : Dec (Fits p) → Dec (HasSheet p)
      by (yes f) = sane f (clash (collection_in p)) refl
      by (no n) = no (λ s. n s.fits)

  -- THEOREM: two contents of both areas that preparing may leave are equal
  pub prepares-once : (area spare x y u v : List ℕ) → Left p area spare x y → Left p area spare u v → (x ≡ u) × (y ≡ v)
  prepares-once area spare x y u v a b = by dec-sheet
    where
      by : Dec (HasSheet p) → (x ≡ u) × (y ≡ v)
      by (yes s) =
          let w = rounds-suffice (collection_in p) (well s.fits) in
          (lays-once _ x u (a.sheet s w.0 w.2) (b.sheet s w.0 w.2), a.cleared s ∙ sym (b.cleared s))
      by (no n) = (a.untouched n ∙ sym (b.untouched n), a.spared n ∙ sym (b.spared n))

  module _ (ask : ℕ → Ask) (tells tells' : ℕ → Answer → Type 0) (area spare : List ℕ) where
    -- THEOREM: two ways to ask a row in turn have the same answers and leave the same areas
    pub in-turn-once : (n : ℕ) {x y u v : List ℕ} → InTurn p ask tells area spare n x y → InTurn p ask tells' area spare n u v
        → (x ≡ u) × (y ≡ v) × ((k : ℕ) → k < n → SameAt tells tells' k)
    in-turn-once zero none none = (refl, refl, λ k h. absurd (omega arith))
    in-turn-once (suc n) (next r a h o) (next q b k m) =
        let w = in-turn-once n a b in
        let m' = rw (← w.0, ← w.1) at m in
        let e = outcome-unique _ o m' in
        (e.1, e.2, λ j l. at j (dec_lt j n) l (w.2) (record { answer = r; one = h; other = rw (← e.0) at k }))
      where
        at : (j : ℕ) → Dec (j < n) → j < suc n → ((j : ℕ) → j < n → SameAt tells tells' j) → SameAt tells tells' n → SameAt tells tells' j
        at j (yes i) l s z = s j i
        at j (no i) l s z = let f : j ≡ n = omega arith in rw f z
