-- The frames of a table's records, by its rows.
use Rattle.std.specs.Prelude.{◌≡◌, refl, List, [], ◌∷◌, map, ℕ, zero, suc, ◌+◌, ◌*◌, ◌/◌, length, drop}
use Rattle.std.specs.Simd.{first_chunks}
use Rattle.std.proofs.Common.{sym, ap, ap₂, ◌∙◌, arith}
use Rattle.std.proofs.lemmas.List.{drop-drop}
use Rattle.laws.specs.Numbers.{upto, numbered}
use Rattle.meaning.specs.Lent.{records}
use Rattle.frames.specs.declared.Frame.{Frame}
use Rattle.sorted.specs.Rows.{rows}
use Rattle.sorted.proofs.Chunks.{row_at}

-- the rows of a table from one on
first : (w n i : ℕ) (t : List ℕ) → first_chunks w n (drop (w * i) t) ≡ map (row_at w t) (upto n i)
unfolding upto
first w zero i t = refl
first w (suc n) i t =
    let e : w * i + w ≡ w * suc i = omega arith in
    let d : drop w (drop (w * i) t) ≡ drop (w * suc i) t = drop-drop w (w * i) t ∙ ap (λ k. drop k t) e in
    ap (λ l. row_at w t i ∷ l) (ap (first_chunks w n) d ∙ first w n (suc i) t)

module _ {A : Type 0} (w : ℕ) (read : List ℕ → ℕ → A) (g : A → Frame) (h : List ℕ → Frame) (t : List ℕ)
    (same : (k : ℕ) → g (read t k) ≡ h (row_at w t k)) where
  by-numbers : (l : List ℕ) → map g (map (read t) l) ≡ map h (map (row_at w t) l)
  by-numbers [] = refl
  by-numbers (k ∷ l) = ap₂ ◌∷◌ (same k) (by-numbers l)

  -- the frames of its records are those that its rows say
  pub by-rows : map g (records w read t) ≡ map h (rows w t)
  unfolding records numbered
  by-rows =
      let n = length t / w in
      let z : drop (w * 0) t ≡ t = let e : w * 0 ≡ 0 = omega arith in rw e refl in
      by-numbers (upto n 0) ∙ ap (map h) (sym (first w n 0 t) ∙ ap (first_chunks w n) z)
