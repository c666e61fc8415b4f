-- Membership by place, as the library says it, and by the sign that a reader expects.
use Rattle.std.specs.Prelude.{◌≡◌, ◌⊎◌, List, [], ◌∷◌, ℕ, zero, suc, ◌<◌, length, slice_index_or}
use Rattle.std.specs.List.{Contains}
use Rattle.std.proofs.Common.{sym, inl, inr, arith}
use mathlib.Core.List.Memᴰ
use Rattle.laws.specs.Member.{◌∈◌}

module _ {X : Type 0} where
  pub placed-in : (l : List X) (k : ℕ) (x : X) → k < length l → slice_index_or l k x ≡ x → x ∈ l
  placed-in [] k x h e = absurd (omega arith)
  placed-in (y ∷ l) zero x h e = Memᴰ.head (sym e)
  placed-in (y ∷ l) (suc k) x h e = Memᴰ.tail (placed-in l k x (omega arith) e)

  pub contains-in : (xs : List X) (x : X) → Contains xs x → x ∈ xs
  contains-in xs x w = placed-in xs w.0 x w.1 w.2

  pub in-contains : (xs : List X) (x : X) → x ∈ xs → Contains xs x
  in-contains [] x m = absurd (Memᴰ.not-nil m)
  in-contains (y ∷ xs) x m = side (Memᴰ.cases_cons m) (in-contains xs x)
    where
      side : (x ≡ y) ⊎ (x ∈ xs) → (x ∈ xs → Contains xs x) → Contains (y ∷ xs) x
      side (inl e) r = (0, omega arith, sym e)
      side (inr k) r = let w = r k in let h = w.1 in (suc w.0, omega arith, w.2)
