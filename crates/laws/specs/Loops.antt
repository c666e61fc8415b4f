-- What a loop has done that takes numbers one after another, told by the numbers D that it has taken.
use Rattle.std.specs.Prelude.{ℕ, ◌+◌, ◌<◌, ◌≡◌, ◌⊎◌, ◌↔◌}
use Rattle.std.proofs.Common.{inl, inr, ⊎_elim, arith}
use Rattle.std.proofs.Math.Decide.{ℕ_discrete}

-- a number of D for which E holds
pub record Witness (D E : ℕ → Type 0) : Type 0 where
  pub number : ℕ
  pub of : D number
  pub holds : E number

-- F has the numbers of D, and k
pub record Extends (D : ℕ → Type 0) (k : ℕ) (F : ℕ → Type 0) : Type 0 where
  pub keeps : (i : ℕ) → D i → F i
  pub own : F k
  pub only : (i : ℕ) → F i → D i ⊎ (i ≡ k)

-- the numbers below n, and n
pub extends_below : (n : ℕ) → Extends (λ i. i < n) n (λ i. i < n + 1)
extends_below n = record {
  keeps = λ i l. omega arith;
  own = omega arith;
  only = λ i l. elim (ℕ_discrete i n) [ yes e ↦ inr e | no ne ↦ inl (omega arith) ];
}

-- What a loop puts in one place, step by step: B there has what A had, and P. Nothing; where A has nothing;
-- the same said otherwise; first P, then Q.
pub nothing_added : {P A : Type 0} → (P → ⊥) → A ↔ (A ⊎ P)
nothing_added none = (λ a. inl a, ⊎_elim (λ a. a) (λ p. absurd (none p)))

pub add_first : {P A B : Type 0} → (A → ⊥) → B ↔ (A ⊎ P) → B ↔ P
add_first none b = (λ x. ⊎_elim (λ a. absurd (none a)) (λ p. p) (b.0 x), λ p. b.1 (inr p))

pub add_same : {P Q A B : Type 0} → (P → Q) → (Q → P) → B ↔ (A ⊎ P) → B ↔ (A ⊎ Q)
add_same to from b = (λ x. ⊎_elim (λ a. inl a) (λ p. inr (to p)) (b.0 x), ⊎_elim (λ a. b.1 (inl a)) (λ q. b.1 (inr (from q))))

pub add_as : {P Q A B : Type 0} → P ↔ Q → B ↔ (A ⊎ P) → B ↔ (A ⊎ Q)
add_as h b = add_same h.0 h.1 b

pub add_then : {P Q A B C : Type 0} → B ↔ (A ⊎ P) → C ↔ (B ⊎ Q) → C ↔ (A ⊎ (P ⊎ Q))
add_then old new = (
  λ c. ⊎_elim (λ b. ⊎_elim (λ a. inl a) (λ p. inr (inl p)) (old.0 b)) (λ q. inr (inr q)) (new.0 c),
  ⊎_elim (λ a. new.1 (inl (old.1 (inl a)))) (⊎_elim (λ p. new.1 (inl (old.1 (inr p)))) (λ q. new.1 (inr q))),
)

-- before any number is taken, and once all are
pub add_none : {D E : ℕ → Type 0} {A : Type 0} → ((i : ℕ) → D i → ⊥) → A ↔ (A ⊎ Witness D E)
add_none none = nothing_added (λ w. none w.number w.of)

pub witness_same : {D F E : ℕ → Type 0} → ((i : ℕ) → D i ↔ F i) → Witness D E ↔ Witness F E
witness_same same = (
  λ w. record { number = w.number; of = (same w.number).0 w.of; holds = w.holds },
  λ w. record { number = w.number; of = (same w.number).1 w.of; holds = w.holds },
)

pub put_all : {D F E : ℕ → Type 0} {A : Type 0} → ((i : ℕ) → D i ↔ F i) → A ↔ Witness D E → A ↔ Witness F E
put_all same a = (λ x. (witness_same same).0 (a.0 x), λ w. a.1 ((witness_same same).1 w))

pub add_all : {D F E : ℕ → Type 0} {A B : Type 0} → ((i : ℕ) → D i ↔ F i) → B ↔ (A ⊎ Witness D E) → B ↔ (A ⊎ Witness F E)
add_all same b = add_same (witness_same same).0 (witness_same same).1 b

module _ {D F : ℕ → Type 0} {k : ℕ} (x : Extends D k F) where
  -- one number more: its witnesses are those there were, and k
  pub witness_more : {E : ℕ → Type 0} → Witness F E ↔ (Witness D E ⊎ E k)
  witness_more {E} = (
    λ w.
        ⊎_elim (λ d. inl (record { number = w.number; of = d; holds = w.holds })) (λ e. let h = w.holds in inr (rw e at h))
        (x.only w.number w.of),
    ⊎_elim (λ w. record { number = w.number; of = x.keeps w.number w.of; holds = w.holds })
        (λ h. record { number = k; of = x.own; holds = h }),
  )

  -- what holds of each number taken
  pub each_more : {P : ℕ → Type 0} → ((i : ℕ) → D i → P i) → P k → (i : ℕ) → F i → P i
  each_more each own i f = ⊎_elim (λ d. each i d) (λ e. rw e own) (x.only i f)

  -- what the numbers taken have put in one place beside what it had: first to nothing, then to some
  pub put_more : {E : ℕ → Type 0} {A B : Type 0} → A ↔ Witness D E → B ↔ (A ⊎ E k) → B ↔ Witness F E
  put_more old new = (
    λ b. witness_more.1 (⊎_elim (λ a. inl (old.0 a)) (λ e. inr e) (new.0 b)),
    λ w. new.1 (⊎_elim (λ v. inl (old.1 v)) (λ e. inr e) (witness_more.0 w)),
  )

  pub add_more : {E : ℕ → Type 0} {A B C : Type 0} → B ↔ (A ⊎ Witness D E) → C ↔ (B ⊎ E k) → C ↔ (A ⊎ Witness F E)
  add_more old new = add_same witness_more.1 witness_more.0 (add_then old new)
