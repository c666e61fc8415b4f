-- Where a list departs from another: what stands before is the same, and there it is not.
use Rattle.std.specs.Prelude.{◌≡◌, ◌≢◌, refl, ℕ, zero, suc, ◌<◌, List, [], ◌∷◌, take, slice_get}
use Rattle.std.proofs.Common.{sym, ap, ◌∙◌, arith}
use Rattle.std.proofs.Math.Decide.{dec_lt}
use Rattle.laws.specs.Once.{AtMostOne}

module _ {A : Type 0} where
  -- the first k of both are the same; at place k, counted from 0, they are not, or one has ended
  pub record DepartsAt (list other : List A) (k : ℕ) : Type 0 where
    pub same_before : take k list ≡ take k other
    pub not_there : slice_get list k ≢ slice_get other k

-- a list departs from another at one place at most
abbrev pub DepartsOnce : Type 0 → Type 0
DepartsOnce A = (list other : List A) → AtMostOne (DepartsAt list other)

module _ {A : Type 0} where
  taken : (k i : ℕ) (l : List A) → i < k → slice_get (take k l) i ≡ slice_get l i
  taken zero i l h = absurd (omega arith)
  taken (suc k) i [] h = refl
  taken (suc k) zero (x ∷ l) h = refl
  taken (suc k) (suc i) (x ∷ l) h = taken k i l (omega arith)

  pub departs-once : DepartsOnce A
  departs-once list other i k a b =
      elim (dec_lt i k) [
        | yes h ↦ absurd (sooner i k a b h)
        | no h ↦ elim (dec_lt k i) [ yes g ↦ absurd (sooner k i b a g) | no g ↦ omega arith ]
      ]
    where
      sooner : (i k : ℕ) → DepartsAt list other i → DepartsAt list other k → i < k → ⊥
      sooner i k a b h = a.not_there (sym (taken k i list h) ∙ (ap (λ l. slice_get l i) b.same_before ∙ taken k i other h))
