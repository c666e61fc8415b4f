-- The members of a set, as a list.
use Rattle.std.specs.Prelude.{◌≡◌, refl, Bool, true, false, ℕ, zero, suc, ◌+◌, ◌<◌, ◌≤◌, filter}
use Rattle.std.specs.List.{range_with_len}
use Rattle.std.proofs.Common.{sym, inl, inr, ⊎_elim, arith}
use Rattle.std.proofs.Math.Decide.{ℕ_discrete}
use Rattle.std.proofs.lemmas.Bool.{cases_Bool}
use mathlib.Core.List.Memᴰ
use mathlib.Core.List.{Memᴰ}
use Rattle.laws.specs.Member.{◌∈◌}
use Rattle.sets.specs.Bits.{has, Has, members}
use Rattle.sets.proofs.RowLaws.{has_fact}

pub in_from : (p : ℕ → Bool) (m a k : ℕ) → a ≤ k → k < a + m → p k ≡ true → k ∈ filter p (range_with_len a m)
in_from p zero a k l h e = absurd (omega arith)
in_from p (suc m) a k l h e =
    elim (ℕ_discrete a k) [
      | yes q ↦ let g : p a ≡ true = rw q e in rw g (Memᴰ.head (sym q))
      | no ne ↦
          let rest = in_from p m (a + 1) k (omega arith) (omega arith) e in
          elim (cases_Bool (p a)) [ inl f ↦ rw f (Memᴰ.tail rest) | inr f ↦ rw f rest ]
    ]

pub out_from : (p : ℕ → Bool) (m a k : ℕ) → k ∈ filter p (range_with_len a m) → (a ≤ k) × (k < a + m) × (p k ≡ true)
out_from p zero a k h = absurd (Memᴰ.not-nil h)
out_from p (suc m) a k h = side (p a) refl
    (λ g. let w = out_from p m (a + 1) k g in (let l = w.0 in omega arith, let l = w.1 in omega arith, w.2))
  where
    side : (b : Bool) → p a ≡ b → (k ∈ filter p (range_with_len (a + 1) m) → (a ≤ k) × (k < a + suc m) × (p k ≡ true))
        → (a ≤ k) × (k < a + suc m) × (p k ≡ true)
    side false f rest = rest (rw f at h)
    side true f rest = ⊎_elim (λ q. (omega arith, omega arith, rw q f)) rest (Memᴰ.cases_cons (rw f at h))

pub has_is : (n k : ℕ) → has n k ≡ true → Has n k
has_is n k = (has_fact n k).0

pub has_of : (n k : ℕ) → Has n k → has n k ≡ true
has_of n k = (has_fact n k).1

pub member_in : (w n k : ℕ) → k < w → Has n k → k ∈ members w n
unfolding members
member_in w n k h b = in_from (has n) w 0 k (omega arith) (omega arith) (has_of n k b)

pub member_out : (w n k : ℕ) → k ∈ members w n → (k < w) × Has n k
unfolding members
member_out w n k h = let v = out_from (has n) w 0 k h in (let l = v.1 in omega arith, has_is n k v.2)
