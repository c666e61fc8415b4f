-- Members of the part of a list that passes a test.
use Rattle.std.specs.Prelude.{◌≡◌, refl, Bool, true, false}
use Rattle.std.specs.List.{filter}
use Rattle.std.proofs.Common.{ap, ◌∙◌, inl, inr, cond}
use mathlib.Core.List.Memᴰ
use mathlib.Core.List.{List, [], ◌∷◌}
use Rattle.laws.specs.Member.{◌∈◌}

module _ {A : Type 0} (p : A → Bool) where
  pub filter-out : (l : List A) {x : A} → x ∈ filter p l → (x ∈ l) × (p x ≡ true)
  filter-out [] m = absurd (Memᴰ.not-nil m)
  filter-out (z ∷ l) {x} m = by (p z) refl m (λ n. filter-out l n)
    where
      by : (b : Bool) → p z ≡ b → x ∈ cond b (z ∷ filter p l) (filter p l) → (x ∈ filter p l → (x ∈ l) × (p x ≡ true))
          → (x ∈ (z ∷ l)) × (p x ≡ true)
      by true d n on =
          elim (Memᴰ.cases_cons n) [
            | inl i ↦ (Memᴰ.head i, ap p i ∙ d)
            | inr k ↦ let w = on k in (Memᴰ.tail w.0, w.1)
          ]
      by false d n on = let w = on n in (Memᴰ.tail w.0, w.1)
