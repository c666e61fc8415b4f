-- The final states of a table, put into a set one after another.
use Rattle.std.specs.Prelude.{◌≡◌, ◌⊎◌, List, ℕ, ◌+◌, ◌<◌, ◌≤◌}
use Rattle.std.proofs.Common.{sym, inl, inr, arith}
use Rattle.std.proofs.Math.Decide.{ℕ_discrete}
use Rattle.sets.specs.Bits.{Has, Inserts, IsSetOf, state_width}
use Rattle.meaning.specs.Lent.{final_at}
use Rattle.walk.specs.Finals.{IsFinalBelow, AreFinals}
use Rattle.walk.proofs.SetLaws.{none_has, same_sets}

module _ (t : List ℕ) where
  pub finals_none : IsSetOf (IsFinalBelow t 0) 0
  finals_none = record { member = λ u. (λ p. absurd (none_has u p), λ q. let l = q.below in absurd (omega arith)) }

  pub finals_more : (k n r : ℕ) → IsSetOf (IsFinalBelow t k) n → Inserts state_width n (final_at t k).0 r
      → IsSetOf (IsFinalBelow t (k + 1)) r
  finals_more k n r g ins = record {
    member = λ u.
        (λ p. to u ((ins.member u).0 p), λ q. (ins.member u).1 (from u q (ℕ_discrete q.place k)));
  }
    where
      to : (u : ℕ) → Has n u ⊎ ((u ≡ (final_at t k).0) × ((final_at t k).0 < state_width)) → IsFinalBelow t (k + 1) u
      to u (inl p) = let q = (g.member u).0 p in let l = q.below in record { place = q.place; below = omega arith; is = q.is; low = q.low }
      to u (inr p) = record { place = k; below = omega arith; is = sym p.0; low = rw p.0 p.1 }

      from : (u : ℕ) → (q : IsFinalBelow t (k + 1) u) → Dec (q.place ≡ k)
          → Has n u ⊎ ((u ≡ (final_at t k).0) × ((final_at t k).0 < state_width))
      from u q (yes e) = let i = q.is in let l = q.low in inr (sym (rw e at i), omega (arith, rw e at i))
      from u q (no ne) = let l = q.below in inl ((g.member u).1 (record { place = q.place; below = omega arith; is = q.is; low = q.low }))

  -- and all of them
  pub finals_all : (k m n : ℕ) → k ≤ m → m ≤ k → IsSetOf (IsFinalBelow t k) n → IsSetOf (IsFinalBelow t m) n
  finals_all k m n a b g = let e : k ≡ m = omega arith in rw e at g

  -- THEOREM: the contract of a question leaves one set
  pub finals-once : (r q : ℕ) → AreFinals t r → AreFinals t q → r ≡ q
  finals-once r q v w = same_sets r q (λ u. (λ p. (w.member u).1 ((v.member u).0 p), λ p. (v.member u).1 ((w.member u).0 p)))
