-- A loop over the numbers below a width that puts into a set those that pass a test.
use Rattle.std.specs.Prelude.{ℕ, ◌≡◌, ◌+◌, ◌<◌, ◌↔◌, IsTrue, Bool}
use Rattle.std.proofs.Common.{arith, inl, inr, ⊎_elim}
use Rattle.std.proofs.Math.Decide.{ℕ_discrete}
use Rattle.std.proofs.lemmas.Nat.Bits.{bit_at-zero}
use Rattle.sets.specs.Bits.{Has, IsSetOf, InsertsIf}
use Rattle.sift.specs.Exclusions.{Below}

-- the set has those below n that have P
pub record Gathered (P : ℕ → Type 0) (n set : ℕ) : Type 0 where
  pub member : (i : ℕ) → Has set i ↔ Below n P i

module _ (P : ℕ → Type 0) where
  pub none : Gathered P 0 0
  none = record { member = λ i. let z = bit_at-zero i in (λ p. absurd (omega arith), λ w. let l = w.0 in absurd (omega arith)) }

  pub more : (w n old new : ℕ) (on : Bool) → Gathered P n old → n < w → IsTrue on ↔ P n → InsertsIf w old n on new
      → Gathered P (n + 1) new
  more w n old new on g h t s = record { member = λ i. (to i, λ p. from i p (ℕ_discrete i n)) }
    where
      to : (i : ℕ) → Has new i → Below (n + 1) P i
      to i p =
          ⊎_elim (λ q. let b = (g.member i).0 q in let l = b.0 in (omega arith, b.1))
          (λ q. let e = q.0 in (omega arith, rw e (t.0 q.2))) ((s.member i).0 p)

      from : (i : ℕ) → Below (n + 1) P i → Dec (i ≡ n) → Has new i
      from i p (yes e) = let x = p.1 in (s.member i).1 (inr (e, h, t.1 (rw e at x)))
      from i p (no ne) = let l = p.0 in (s.member i).1 (inl ((g.member i).1 (omega arith, p.1)))

  pub end : (w n set : ℕ) → Gathered P n set → n ≡ w → IsSetOf (Below w P) set
  end w n set g e = let s : IsSetOf (Below n P) set = record { member = g.member } in rw e at s
