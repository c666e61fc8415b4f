-- Loops that look for a number with P, among the members of a set or among those below a number, and stop at the first.
use Rattle.std.specs.Prelude.{ℕ, ◌+◌, ◌≡◌, ◌≤◌, ◌<◌, ◌⊎◌, ◌↔◌, IsTrue, Bool, true, false, List}
use Rattle.std.proofs.Common.{inl, inr, arith, refl, below_more}
use Rattle.std.proofs.Math.Decide.{ℕ_discrete}
use Rattle.std.proofs.lemmas.Bool.{false≢true}
use Rattle.sets.specs.Bits.{Has, IsEmpty, TakesFirst}
use Rattle.orders.specs.Marks.{Listed}
use Rattle.clash.specs.Clashes.{SomeBelow, SomeIn, BothSides}

-- a test that passes or fails tells the fact of it
pub shown : {P : Type 0} → P → IsTrue true ↔ P
shown p = (λ e. p, λ q. refl)

pub not_shown : {P : Type 0} → (P → ⊥) → IsTrue false ↔ P
not_shown n = (λ e. absurd (false≢true e), λ p. absurd (n p))

pub never : {r : Bool} {P : Type 0} → IsTrue r ↔ P → r ≡ false → P → ⊥
never t e p = false≢true (rw e at (t.1 p))

-- of the members of n those in rest are still to come, and none of the others has P
pub record Seeking (P : ℕ → Type 0) (n rest : ℕ) : Type 0 where
  pub part : (i : ℕ) → Has rest i → Has n i
  pub none : (i : ℕ) → Has n i → (Has rest i → ⊥) → P i → ⊥

-- none below n has P
pub record Past (P : ℕ → Type 0) (n : ℕ) : Type 0 where
  pub none : (i : ℕ) → i < n → P i → ⊥

module _ (P : ℕ → Type 0) (n : ℕ) where
  pub seek_start : Seeking P n n
  seek_start = record { part = λ i p. p; none = λ i p q. absurd (q p) }

  module _ (w m k r : ℕ) (s : Seeking P n m) (t : TakesFirst w m k r) where
    pub seek_more : (P k → ⊥) → Seeking P n r
    seek_more never = record { part = λ i p. s.part i ((t.rest.member i).0 p).0; none = λ i p q x. side i p q x (ℕ_discrete i k) }
      where
        side : (i : ℕ) → Has n i → (Has r i → ⊥) → P i → Dec (i ≡ k) → ⊥
        side i p q x (yes e) = never (rw e at x)
        side i p q x (no ne) = s.none i p (λ y. q ((t.rest.member i).1 (y, ne))) x

    pub seek_here : P k → IsTrue true ↔ SomeIn w P n
    seek_here p = (λ e. record { one = k; within = t.within; member = s.part k t.member; has = p }, λ x. refl)

  pub seek_end : (w m : ℕ) → Seeking P n m → IsEmpty m → IsTrue false ↔ SomeIn w P n
  seek_end w m s e = (λ f. absurd (false≢true f), λ x. absurd (s.none x.one x.member (e x.one) x.has))

module _ (P : ℕ → Type 0) where
  pub past_none : Past P 0
  past_none = record { none = λ i l. absurd (omega arith) }

  pub past_more : (n : ℕ) → Past P n → (P n → ⊥) → Past P (n + 1)
  past_more n p never = record { none = below_more _ _ p.none never }

  pub past_here : (n w : ℕ) → n < w → P n → IsTrue true ↔ SomeBelow w P
  past_here n w l p = (λ e. record { one = n; within = l; has = p }, λ x. refl)

  pub past_end : (n w : ℕ) → Past P n → w ≤ n → IsTrue false ↔ SomeBelow w P
  past_end n w p l = (λ f. absurd (false≢true f), λ x. absurd (p.none x.one (let k = x.within in omega arith) x.has))

-- both sides of an exclusion have Q, where each that has P beside a side has it
pub sides_same : (n : ℕ) (table : List ℕ) (P Q : ℕ → Type 0) → ((i j : ℕ) → i < n → j < n → Listed table i j ⊎ Listed table j i → P i → Q i)
    → BothSides n table P → BothSides n table Q
sides_same n table P Q to x = record {
  left = x.left;
  right = x.right;
  left_row = x.left_row;
  right_row = x.right_row;
  listed = x.listed;
  has_left = to x.left x.right x.left_row x.right_row (inl x.listed) x.has_left;
  has_right = to x.right x.left x.right_row x.left_row (inr x.listed) x.has_right;
}
