-- A row of asks, as far as it is answered; and answered whole, it is asked in turn.
use Rattle.std.specs.Prelude.{◌≡◌, refl, ◌⊎◌, IfSome, List, ℕ, zero, suc, ◌<◌, min, length, slice_get}
use Rattle.std.proofs.Common.{subst, inl, inr, arith}
use Rattle.std.proofs.Math.Decide.{dec_lt}
use Rattle.std.proofs.lemmas.Option.{slice_get-get_or}
use Rattle.kinds.specs.declared.Answer.{Answer}
use Rattle.kinds.specs.declared.Answer.TheVariants.{BadAsk}
use Rattle.kinds.specs.declared.Counts.{Counts}
use Rattle.meaning.specs.Outcome.{Outcome, bad-count, bad-table, bad-number, bad-ask, contradiction, spent, says-yes, says-no}
use Rattle.kinds.specs.declared.Ask.{Ask}
use Rattle.kinds.specs.declared.Ask.TheVariants.{Pair, From}
use Rattle.index.specs.declared.lent.Lent.{Lent}
use Rattle.index.specs.Preparation.{Preparation, preparation, Left}
use Rattle.kinds.specs.Asks.{AskDeclared}
use Rattle.tables.specs.Asks.{read_ask}
use Rattle.index.specs.Asked.{asked, IsAnswer}
use Rattle.index.specs.Clauses.{Refuses}
use Rattle.index.specs.Row.{ask_count, AnswersEach, AllAlike, StandsAt, SomeDeclared, InTurn, none, next}
use Rattle.index.proofs.Outcomes.{replied}

-- an entry that is there
pub stands : (P : Answer → Type 0) (answers : List Answer) (k : ℕ) → k < length answers → IfSome (slice_get answers k) P
    → (r : Answer) × StandsAt answers k r × P r
stands P answers k h w =
    let e = slice_get-get_or answers k BadAsk h in
    (_, e, subst (λ o. IfSome o P) e w)

dec-declared : (c : Counts) (ask : Ask) → Dec (AskDeclared c ask)
dec-declared c (From a) = dec_lt a.0 c.individuals
dec-declared c (Pair a b) = both (dec_lt a.0 c.individuals) (dec_lt b.0 c.individuals)
  where
    both : {A B : Type 0} → Dec A → Dec B → Dec (A × B)
    both (yes a) (yes b) = yes (a, b)
    both (yes a) (no m) = no (λ w. m w.1)
    both (no m) b = no (λ w. m w.0)

module _ (p : Preparation) (ask : Ask) (x y : List ℕ) where
  -- an ask that is not declared leaves both areas as they were
  spared : {r : Answer} {u v : List ℕ} → (AskDeclared p.counts ask → ⊥) → Outcome (asked p ask x y) r u v → Outcome (asked p ask x y) r x y
  spared n (bad-count h) = bad-count h
  spared n (bad-table k h) = bad-table k h
  spared n (bad-number k t h) = bad-number k t h
  spared n (bad-ask k t m h) = bad-ask k t m h
  spared n (contradiction s k) = absurd (n s.ask)
  spared n (spent s k need h lays) = absurd (n s.ask)
  spared n (says-yes s k need h lays q) = absurd (n s.ask)
  spared n (says-no s k need h lays q) = absurd (n s.ask)

module _ (p : Preparation) (ask : ℕ → Ask) (tells : ℕ → Answer → Type 0) (area spare : List ℕ) where
  abbrev Turn : ℕ → List ℕ → List ℕ → Type 0
  Turn = InTurn p ask tells area spare

  -- THEOREM: asks that leave both areas as they were are asked in turn
  pub still : (n : ℕ) → ((k : ℕ) → k < n → (r : Answer) × tells k r × Outcome (asked p (ask k) area spare) r area spare) → Turn n area spare
  still zero h = none
  still (suc n) h = let w = h n (omega arith) in next w.0 (still n (λ k l. h k (omega arith))) w.1 w.2

  module _ (x y : List ℕ) (left : Left p area spare x y) (e : length area ≡ p.area) (f : length spare ≡ p.spare) (g : length x ≡ p.area)
      (h : length y ≡ p.spare) where
    -- prepared once more, nothing changes
    again : Left p x y x y
    again = record { sheet = left.sheet; cleared = left.cleared; untouched = λ n. refl; spared = λ n. refl }

    abbrev Replied : ℕ → Type 0
    Replied k = (r : Answer) × tells k r × IsAnswer p (ask k) r

    abbrev Far : ℕ → Type 0
    Far n = (((k : ℕ) → k < n → AskDeclared p.counts (ask k) → ⊥) × Turn n area spare) ⊎ Turn n x y

    step : (n : ℕ) → Replied n → Far n → Dec (AskDeclared p.counts (ask n)) → Far (suc n)
    step n w (inl z) (yes d) = inr (next w.0 z.1 w.1 (replied p area spare x y left e f (ask n) w.0 d w.2))
    step n w (inl z) (no m) =
        inl (λ k l. at k (dec_lt k n) l, next w.0 z.1 w.1 (spared p (ask n) area spare m (w.2 area spare e f).2))
      where
        at : (k : ℕ) → Dec (k < n) → k < suc n → AskDeclared p.counts (ask k) → ⊥
        at k (yes l) i d = z.0 k l d
        at k (no l) i d = let q : k ≡ n = omega arith in m (rw q at d)
    step n w (inr z) (yes d) = inr (next w.0 z w.1 (replied p x y x y again g h (ask n) w.0 d w.2))
    step n w (inr z) (no m) = inr (next w.0 z w.1 (spared p (ask n) x y m (w.2 x y g h).2))

    far : (n : ℕ) → ((k : ℕ) → k < n → Replied k) → Far n
    far zero w = inl (λ k l. absurd (omega arith), none)
    far (suc n) w = step n (w n (omega arith)) (far n (λ k l. w k (omega arith))) (dec-declared p.counts (ask n))

    -- THEOREM: replies from one preparation are the answers to asks in turn, where one of them is declared
    pub turns : (n : ℕ) → ((k : ℕ) → k < n → Replied k) → (k : ℕ) → k < n → AskDeclared p.counts (ask k) → Turn n x y
    turns n w k l d = by (far n w)
      where
        by : Far n → Turn n x y
        by (inl z) = absurd (z.0 k l d)
        by (inr z) = z

module _ (l : Lent) (t : List ℕ) (area spare : List ℕ) (answers : List Answer) (long n : ℕ) (same : length answers ≡ long)
    (few : n ≡ min (ask_count t) long) where
  abbrev p : Preparation
  p = preparation l (length area) (length spare)

  -- where none is declared
  pub refused_in_turn : (refused : Answer) → Refuses l (length area) (length spare) refused → AllAlike t refused answers
      → (SomeDeclared l.collection.counts t n → ⊥) → InTurn p (read_ask t) (StandsAt answers) area spare (min (ask_count t) long) area spare
  refused_in_turn refused h alike none-declared =
      rw (← few) (still p (read_ask t) (StandsAt answers) area spare n
      (λ k i.
      let w = stands (λ q. q ≡ refused) answers k (omega arith) (alike k (omega arith)) in
      let o = h (read_ask t k) area spare refl refl
      (λ d. none-declared (record { at = k; below = omega arith; whole = omega arith; declared = d })) in
      (w.0, w.1, rw w.2 o)))

  module _ (q : Preparation) (own : q ≡ p) (x y : List ℕ) (left : Left q area spare x y) (e : length x ≡ length area)
      (f : length y ≡ length spare) where
    -- where some is
    pub replied_in_turn : AnswersEach q t answers → SomeDeclared l.collection.counts t n
        → InTurn p (read_ask t) (StandsAt answers) area spare (min (ask_count t) long) x y
    replied_in_turn each d =
        let left' = subst (λ (q : Preparation). Left q area spare x y) own left in
        let each' = subst (λ (q : Preparation). AnswersEach q t answers) own each in
        rw (← few)
        (turns p (read_ask t) (StandsAt answers) area spare x y left' refl refl e f n
        (λ k i. stands (IsAnswer p (read_ask t k)) answers k (omega arith) (each' k (omega arith))) d.at d.below d.declared)

-- the same asks in turn, whose answers stand elsewhere too
pub retold : {p : Preparation} {ask ask' : ℕ → Ask} {tells tells' : ℕ → Answer → Type 0} {area spare : List ℕ} (n : ℕ) {x y : List ℕ}
    → InTurn p ask tells area spare n x y
    → ((k : ℕ) → k < n → ask k ≡ ask' k) → ((k : ℕ) (r : Answer) → k < n → tells k r → tells' k r) → InTurn p ask' tells' area spare n x y
retold zero none e h = none
retold {p} {ask} {ask'} (suc n) (next {x = x} {y = y} {u = u} {v = v} r a s o) e h =
    let o' = subst (λ (q : Ask). Outcome (asked p q x y) r u v) (e n (omega arith)) o in
    next r (retold n a (λ k l. e k (omega arith)) (λ k q l. h k q (omega arith))) (h n r (omega arith) s) o'
