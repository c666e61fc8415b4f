-- Sets that a loop gathers: of the numbers below one, or while it goes over the members of another set.
use Rattle.std.specs.Prelude.{ℕ, List, Bool, true, false, not, ◌≡◌, refl, ◌⊎◌, ◌↔◌, IsTrue, ◌+◌, ◌<◌, ◌≤◌, length}
use Rattle.std.proofs.Common.{ap, inl, inr, ⊎_elim, arith}
use Rattle.std.proofs.Math.Decide.{ℕ_discrete, dec_lt}
use Rattle.std.proofs.Math.ListN.{get_or-eq_default}
use Rattle.laws.specs.Loops.{Extends}
use Rattle.sets.specs.Bits.{Has, IsSetOf, IsEmpty, InsertsIf, TakesFirst}
use Rattle.sets.specs.Rows.{no_states}
use Rattle.sets.specs.Relations.{states_at, Relates}
use Rattle.sets.proofs.Laws.{none_has}
use Rattle.sets.specs.declared.states.StateSet.{StateSet}

-- past the end of a list there is no set
pub no_row : (l : List StateSet) (k : ℕ) → length l ≤ k → states_at l k ≡ 0
no_row l k h = ap (λ (s : StateSet). s.0) (get_or-eq_default l no_states {n = k} (omega arith))

-- past the last row a relation leads nowhere
pub low_start : (relation : List StateSet) (n s t : ℕ) → length relation ≤ n → Relates relation s t → s < n
low_start relation n s t h r =
    elim (dec_lt s n) [ yes l ↦ l | no g ↦ absurd (none_has t (rw (no_row relation s (omega arith)) at r)) ]

-- one row more, from which a relation leads or not
pub starts_more : (relation : List StateSet) (w i out new : ℕ) (none : Bool)
    → ((s t : ℕ) → s < i → Relates relation s t → Has out s) → i < w → IsTrue none ↔ IsEmpty (states_at relation i)
    → InsertsIf w out i (not none) new → (s t : ℕ) → s < i + 1 → Relates relation s t → Has new s
starts_more relation w i out new none old low test ins s t l r = elim (ℕ_discrete s i) [
  | yes e ↦ (ins.member s).1 (inr (e, omega arith, on none test (rw e at r)))
  | no ne ↦ (ins.member s).1 (inl (old s t (omega arith) r))
]
  where
    on : (b : Bool) → IsTrue b ↔ IsEmpty (states_at relation i) → Relates relation i t → not b ≡ true
    on true k q = absurd (k.0 refl t q)
    on false k q = refl

-- ---- the members of a set, the first one first

-- i is a member, and is no longer among the rest
pub record Taken (set rest i : ℕ) : Type 0 where
  pub member : Has set i
  pub gone : Has rest i → ⊥

-- the rest is of the set, and of the members taken the loop has done what Did says
pub record Over (set rest : ℕ) (Did : (ℕ → Type 0) → Type 0) : Type 0 where
  pub part : (i : ℕ) → Has rest i → Has set i
  pub did : Did (Taken set rest)

pub over_start : {set : ℕ} {Did : (ℕ → Type 0) → Type 0} → (((i : ℕ) → Taken set set i → ⊥) → Did (Taken set set))
    → Over set set Did
over_start did = record { part = λ i p. p; did = did (λ i t. t.gone t.member) }

pub over_end : {set rest : ℕ} {Did : (ℕ → Type 0) → Type 0} {R : Type 0} → Over set rest Did → IsEmpty rest
    → (((i : ℕ) → Taken set rest i ↔ Has set i) → Did (Taken set rest) → R) → R
over_end v none turn = turn (λ i. (λ t. t.member, λ p. record { member = p; gone = none i })) v.did

module _ {w set rest k next : ℕ} (part : (i : ℕ) → Has rest i → Has set i) (t : TakesFirst w rest k next) where
  taken : Extends (Taken set rest) k (Taken set next)
  taken = record {
    keeps = λ i x. record { member = x.member; gone = λ p. x.gone ((t.rest.member i).0 p).0 };
    own = record { member = part k t.member; gone = λ p. ((t.rest.member k).0 p).1 refl };
    only = λ i x. side i x (ℕ_discrete i k);
  }
    where
      side : (i : ℕ) → Taken set next i → Dec (i ≡ k) → Taken set rest i ⊎ (i ≡ k)
      side i x (yes e) = inr e
      side i x (no ne) = inl (record { member = x.member; gone = λ p. x.gone ((t.rest.member i).1 (p, ne)) })

-- one member more
pub over_more : {w set rest k next : ℕ} {Did After : (ℕ → Type 0) → Type 0} → Over set rest Did → TakesFirst w rest k next
    → (Extends (Taken set rest) k (Taken set next) → Did (Taken set rest) → After (Taken set next)) → Over set next After
over_more v t turn = record { part = λ i p. v.part i ((t.rest.member i).0 p).0; did = turn (taken v.part t) v.did }

-- ---- the numbers below one, each put in where it has P

module _ (P : ℕ → Type 0) where
  abbrev pub Gathering : ℕ → ℕ → Type 0
  Gathering i = IsSetOf (λ t. (t < i) × P t)

  pub gathered_more : (w i out new : ℕ) (on : Bool) → i < w → Gathering i out → InsertsIf w out i on new → IsTrue on ↔ P i
      → Gathering (i + 1) new
  gathered_more w i out new on l g ins s = record { member = λ t. (to t, from t) }
    where
      to : (t : ℕ) → Has new t → (t < i + 1) × P t
      to t p =
          ⊎_elim (λ q. let k = (g.member t).0 q in let h = k.0 in (omega arith, k.1))
          (λ q. let e = q.0 in let h = s.0 q.2 in (omega arith, rw e h)) ((ins.member t).0 p)

      put : (t : ℕ) → t < i + 1 → P t → Dec (t ≡ i) → Has new t
      put t h p (yes e) = (ins.member t).1 (inr (e, omega arith, s.1 (rw e at p)))
      put t h p (no ne) = (ins.member t).1 (inl ((g.member t).1 (omega arith, p)))

      from : (t : ℕ) → (t < i + 1) × P t → Has new t
      from t q = put t q.0 q.1 (ℕ_discrete t i)

  pub gathered_end : (i out : ℕ) → ((t : ℕ) → P t → t < i) → Gathering i out → IsSetOf P out
  gathered_end i out few g = record { member = λ t. (λ p. ((g.member t).0 p).1, λ p. (g.member t).1 (few t p, p)) }
