-- A table of numbers and its records, each the list of its numbers: one from the other.
use Rattle.std.specs.Prelude.{◌≡◌, refl, List, [], ◌∷◌, ◌++◌, ℕ, zero, suc, ◌+◌, ◌-◌, ◌*◌, ◌/◌, ◌%◌, ◌<◌, ◌≤◌, length, take, drop, slice_index_or}
use Rattle.std.specs.Simd.{first_chunks}
use Rattle.std.proofs.Common.{sym, ap, ap₂, ◌∙◌, inl, inr, arith}
use Rattle.std.proofs.lemmas.List.{take-append-drop, length-drop, length-append, length-take-le, take_at, drop_at, drop-drop, get_or-take, get_or-drop}
use Rattle.std.proofs.Math.Nat.{mul-div_cancel_left}
use mathlib.Core.List.Memᴰ
use Rattle.laws.specs.Member.{◌∈◌}
use Rattle.meaning.specs.Lent.{field}
use Rattle.sorted.specs.Rows.{rows, flat, AreWide}

pub length-chunks : (w n : ℕ) (t : List ℕ) → length (first_chunks w n t) ≡ n
length-chunks w zero t = refl
length-chunks w (suc n) t = ap suc (length-chunks w n (drop w t))

module _ (w : ℕ) where
  past : (n m : ℕ) → w * suc n ≤ m → (w ≤ m) × (w * n ≤ m - w)
  past n m h = (omega arith, omega arith)

  pub chunks-wide : (n : ℕ) (t : List ℕ) → w * n ≤ length t → AreWide w (first_chunks w n t)
  chunks-wide zero t h = tt
  chunks-wide (suc n) t h =
      let p = past n (length t) h in
      (length-take-le w t p.0, chunks-wide n (drop w t) (rw length-drop p.1))

  -- so many whole records, put one after another, are the table that they were read from
  pub flat-chunks : (n : ℕ) (t : List ℕ) → length t ≡ w * n → flat (first_chunks w n t) ≡ t
  flat-chunks zero [] h = refl
  flat-chunks zero (x ∷ t) h = absurd (omega arith)
  flat-chunks (suc n) t h = ap (λ u. take w t ++ u) (flat-chunks n (drop w t) (length-drop w t ∙ omega arith)) ∙ take-append-drop w t

  pub length-flat : (l : List (List ℕ)) → AreWide w l → length (flat l) ≡ w * length l
  length-flat [] h = omega arith
  length-flat (r ∷ l) h = length-append r (flat l) ∙ omega (arith, h.0, length-flat l h.1)

  -- and the records of a table that was made of some are those
  pub chunks-flat : (l : List (List ℕ)) → AreWide w l → first_chunks w (length l) (flat l) ≡ l
  chunks-flat [] h = refl
  chunks-flat (r ∷ l) h =
      ap₂ ◌∷◌ (take_at r (flat l) w h.0) (ap (first_chunks w (length l)) (drop_at r (flat l) w h.0) ∙ chunks-flat l h.1)

  module _ (wide : 0 < w) where
    -- a table of whole records is its records, one after another
    pub flat-rows : (t : List ℕ) → length t % w ≡ 0 → flat (rows w t) ≡ t
    flat-rows t h = flat-chunks (length t / w) t (omega arith)

    pub rows-flat : (l : List (List ℕ)) → AreWide w l → rows w (flat l) ≡ l
    rows-flat l h =
        let n : length (flat l) / w ≡ length l = ap (λ m. m / w) (length-flat l h) ∙ mul-div_cancel_left (length l) wide in
        rw n (chunks-flat l h)

    pub whole-flat : (l : List (List ℕ)) → AreWide w l → length (flat l) % w ≡ 0
    whole-flat l h =
        let q : w * (w * length l / w) ≡ w * length l = ap (λ m. w * m) (mul-div_cancel_left (length l) wide) in
        ap (λ m. m % w) (length-flat l h) ∙ omega arith

    pub rows-wide : (t : List ℕ) → AreWide w (rows w t)
    rows-wide t = chunks-wide (length t / w) t (omega arith)

module _ (w : ℕ) where
  -- record k of a table, as the list of its numbers
  abbrev pub row_at : List ℕ → ℕ → List ℕ
  row_at t k = take w (drop (w * k) t)

  next_row : (t : List ℕ) (k : ℕ) → row_at (drop w t) k ≡ row_at t (suc k)
  next_row t k = let e : w * suc k ≡ w + w * k = omega arith in rw e (ap (take w) (drop-drop (w * k) w t))

  first_row : (t : List ℕ) → row_at t 0 ≡ take w t
  first_row t = let e : w * 0 ≡ 0 = omega arith in rw e refl

  pub chunk_in : (n : ℕ) (t : List ℕ) (k : ℕ) → k < n → row_at t k ∈ first_chunks w n t
  chunk_in zero t k h = absurd (omega arith)
  chunk_in (suc n) t zero h = Memᴰ.head (first_row t)
  chunk_in (suc n) t (suc k) h = Memᴰ.tail (rw (← next_row t k) (chunk_in n (drop w t) k (omega arith)))

  pub chunk-out : (n : ℕ) (t : List ℕ) {r : List ℕ} → r ∈ first_chunks w n t → (k : ℕ) × (k < n) × (r ≡ row_at t k)
  chunk-out zero t m = absurd (Memᴰ.not-nil m)
  chunk-out (suc n) t {r} m =
      elim (Memᴰ.cases_cons m) [
        | inl e ↦ (0, omega arith, e ∙ sym (first_row t))
        | inr i ↦ let x = chunk-out n (drop w t) i in let l = x.1 in (suc x.0, omega arith, x.2 ∙ next_row t x.0)
      ]

  -- a record has the fields of its table
  pub field-is : (t : List ℕ) (j k : ℕ) → j < w → slice_index_or (row_at t k) j 0 ≡ field w t j k
  field-is t j k h = get_or-take w (drop (w * k) t) j 0 h ∙ get_or-drop (w * k) t j 0
