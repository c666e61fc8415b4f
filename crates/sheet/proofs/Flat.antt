-- Lists that are put together from a list for each of some numbers: their members, their order, what may be left out.
use Rattle.std.specs.Prelude.{◌≡◌, refl, Bool, true, false, ℕ, zero, suc, ◌+◌, ◌<◌, ◌≤◌, cond, length}
use Rattle.std.specs.List.{range_with_len, flat_map, filter}
use Rattle.std.specs.List.Sorted.{IsStrictlySortedBy}
use Rattle.std.specs.Ordering.{nat_cmp}
use Rattle.std.specs.declared.cmp.Ordering.{Ordering}
use Rattle.std.specs.declared.cmp.Ordering.TheVariants.{Less}
use Rattle.std.proofs.Common.{ap, ◌∙◌, inl, inr, arith, lt-ltb, eq-or-lt_of_le, length-append}
use Rattle.std.proofs.lemmas.List.{append-nil}
use Rattle.std.proofs.lemmas.Grind.{flat_map-append}
use mathlib.Core.List.Memᴰ
use mathlib.Core.List.{List, [], ◌∷◌, ◌++◌}
use Rattle.laws.specs.Member.{◌∈◌, all-in}
use Rattle.laws.specs.Rises.{rises-first, rises-both}

-- ---- the numbers from one on

pub range-in : (a n k : ℕ) → a ≤ k → k < a + n → k ∈ range_with_len a n
range-in a zero k l h = absurd (omega arith)
range-in a (suc n) k l h = elim (eq-or-lt_of_le l) [
  | inl e ↦ let g : k ≡ a = omega arith in Memᴰ.head g
  | inr g ↦ Memᴰ.tail (range-in (a + 1) n k (omega arith) (omega arith))
]

pub range-out : (a n k : ℕ) → k ∈ range_with_len a n → (a ≤ k) × (k < a + n)
range-out a zero k m = absurd (Memᴰ.not-nil m)
range-out a (suc n) k m = elim (Memᴰ.cases_cons m) [
  | inl e ↦ (omega arith, omega arith)
  | inr i ↦ let w = range-out (a + 1) n k i in (let l = w.0 in omega arith, let l = w.1 in omega arith)
]

pub range-rises : (a n : ℕ) → IsStrictlySortedBy nat_cmp (range_with_len a n)
unfolding IsStrictlySortedBy
range-rises a zero = tt
range-rises a (suc n) = (
  all-in (λ k. nat_cmp a k ≡ Less) (range_with_len (a + 1) n)
      (λ k m. let l = (range-out (a + 1) n k m).0 in rw (lt-ltb a k (omega arith)) refl),
  range-rises (a + 1) n,
)

-- and the last of them
pub range-last : (a n : ℕ) → range_with_len a (suc n) ≡ range_with_len a n ++ (a + n) ∷ []
range-last a zero = let e : a + 0 ≡ a = omega arith in rw e refl
range-last a (suc n) = let e : a + suc n ≡ a + 1 + n = omega arith in rw e (ap (λ l. a ∷ l) (range-last (a + 1) n))

-- ---- a list for each number of another

module _ {A : Type 0} (f : ℕ → List A) where
  pub flat-in : {k : ℕ} {l : List ℕ} {x : A} → k ∈ l → x ∈ f k → x ∈ flat_map f l
  flat-in {l = []} i m = absurd (Memᴰ.not-nil i)
  flat-in {k} {l = j ∷ l} {x} i m = elim (Memᴰ.cases_cons i) [
    | inl e ↦ Memᴰ.append_left (flat_map f l) (rw e at m)
    | inr g ↦ Memᴰ.append_right (f j) (flat-in g m)
  ]

  pub flat-out : (l : List ℕ) {x : A} → x ∈ flat_map f l → (k : ℕ) × (k ∈ l) × (x ∈ f k)
  flat-out [] m = absurd (Memᴰ.not-nil m)
  flat-out (k ∷ l) m = elim (Memᴰ.append_cases (f k) m) [
    | inl i ↦ (k, Memᴰ.head refl, i)
    | inr i ↦ let w = flat-out l i in (w.0, Memᴰ.tail w.1, w.2)
  ]

  -- each list rises, and what is of a smaller number is below what is of a greater
  pub flat-rises : (R : A → A → Ordering) → ((k : ℕ) → IsStrictlySortedBy R (f k))
      → ((i j : ℕ) (x y : A) → nat_cmp i j ≡ Less → x ∈ f i → y ∈ f j → R x y ≡ Less)
      → (l : List ℕ) → IsStrictlySortedBy nat_cmp l → IsStrictlySortedBy R (flat_map f l)
  unfolding IsStrictlySortedBy
  flat-rises R each apart [] h = tt
  flat-rises R each apart (k ∷ l) h =
      rises-both R (f k) (flat_map f l) (each k) (flat-rises R each apart l h.1)
      (λ x y i m. let w = flat-out l m in apart k w.0 x y (rises-first nat_cmp k l h w.0 w.1) i w.2)

  -- numbers that give nothing may be left out
  pub flat-filter : (p : ℕ → Bool) (a n : ℕ) → ((k : ℕ) → k < a + n → p k ≡ false → f k ≡ [])
      → flat_map f (filter p (range_with_len a n)) ≡ flat_map f (range_with_len a n)
  flat-filter p a zero h = refl
  flat-filter p a (suc n) h = by (p a) refl (flat-filter p (a + 1) n (λ k l. h k (omega arith)))
    where
      by : (b : Bool) → p a ≡ b → flat_map f (filter p (range_with_len (a + 1) n)) ≡ flat_map f (range_with_len (a + 1) n)
          → flat_map f (cond b (a ∷ filter p (range_with_len (a + 1) n)) (filter p (range_with_len (a + 1) n)))
          ≡ f a ++ flat_map f (range_with_len (a + 1) n)
      by true e rest = ap (λ l. f a ++ l) rest
      by false e rest = rw (h a (omega arith) e) rest

  -- and others that give the same may be taken
  pub flat-same : (g : ℕ → List A) (a n : ℕ) → ((k : ℕ) → k < a + n → f k ≡ g k)
      → flat_map f (range_with_len a n) ≡ flat_map g (range_with_len a n)
  flat-same g a zero h = refl
  flat-same g a (suc n) h = rw (h a (omega arith), flat-same g (a + 1) n (λ k l. h k (omega arith))) refl

  -- one number more
  pub flat-more : (n : ℕ) → length (flat_map f (range_with_len 0 (suc n))) ≡ length (flat_map f (range_with_len 0 n)) + length (f n)
  flat-more n =
      let e : 0 + n ≡ n = omega arith in
      ap (λ l. length (flat_map f l)) (range-last 0 n)
      ∙ (ap length (flat_map-append f (range_with_len 0 n) ((0 + n) ∷ []))
      ∙ (length-append (flat_map f (range_with_len 0 n)) (f (0 + n) ++ []) ∙ rw (e, append-nil (f n)) refl))
