-- Lists in which no two places have the same, and how long they are.
use Rattle.std.specs.Prelude.{◌≡◌, ◌≢◌, refl, ◌⊎◌, AllPairs, Bool, true, false, ℕ, zero, suc, ◌≤◌, ◌<◌, length, slice_index_or}
use Rattle.std.proofs.Common.{sym, ap, ◌∙◌, inl, inr, ⊎_elim, arith}
use Rattle.std.proofs.lemmas.List.{get_or_default}
use mathlib.Core.List.Memᴰ
use mathlib.Core.List.{List, [], ◌∷◌, ◌++◌, map}
use Rattle.laws.specs.Member.{◌∈◌, Within, map-out}
use Rattle.laws.specs.Numbers.{upto, upto-out, numbered}
use Rattle.laws.specs.Pairs.{pairs, pairs-out}
use Rattle.laws.specs.Search.{pick}
use Rattle.laws.specs.Select.{select, select-out, Rising}

-- no two places have the same, so that each stands once
abbrev pub Distinct : {A : Type 0} → List A → Type 0
Distinct = AllPairs (λ x y. x ≢ y)

module _ {A : Type 0} where
  pub in-at : (l : List A) (j : ℕ) (d : A) → j < length l → slice_index_or l j d ∈ l
  in-at [] j d h = absurd (omega arith)
  in-at (x ∷ l) zero d h = Memᴰ.head refl
  in-at (x ∷ l) (suc j) d h = Memᴰ.tail (in-at l j d (omega arith))

  pub place-in : {x : A} (l : List A) → x ∈ l → (i : ℕ) × (i < length l) × ((d : A) → slice_index_or l i d ≡ x)
  place-in [] m = absurd (Memᴰ.not-nil m)
  place-in {x} (y ∷ l) m =
      elim (Memᴰ.cases_cons m) [
        | inl e ↦ (0, omega arith, λ d. sym e)
        | inr k ↦ let w = place-in l k in (suc w.0, omega (arith, w.1), w.2)
      ]

  pub distinct-none : Distinct {A = A} []
  distinct-none i j d h k = absurd (omega arith)

  pub distinct-first : (x : A) (l : List A) → Distinct (x ∷ l) → x ∈ l → ⊥
  distinct-first x l h m = let w = place-in l m in h 0 (suc w.0) x (omega arith) (omega (arith, w.1)) (sym (w.2 x))

  pub distinct-rest : (x : A) (l : List A) → Distinct (x ∷ l) → Distinct l
  distinct-rest x l h = λ i j d a b. h (suc i) (suc j) d (omega arith) (omega arith)

  pub distinct-more : (x : A) (l : List A) → (x ∈ l → ⊥) → Distinct l → Distinct (x ∷ l)
  distinct-more x l n h zero zero d a b = absurd (omega arith)
  distinct-more x l n h zero (suc j) d a b = λ e. n (rw e (in-at l j d (omega arith)))
  distinct-more x l n h (suc i) zero d a b = absurd (omega arith)
  distinct-more x l n h (suc i) (suc j) d a b = h i j d (omega arith) (omega arith)

  pub distinct-both : (l m : List A) → Distinct l → Distinct m → ((x : A) → x ∈ l → x ∈ m → ⊥) → Distinct (l ++ m)
  distinct-both [] m h k apart = k
  distinct-both (x ∷ l) m h k apart =
      distinct-more x (l ++ m) (λ i. ⊎_elim (λ j. distinct-first x l h j) (λ j. apart x (Memᴰ.head refl) j) (Memᴰ.append_cases l i))
      (distinct-both l m (distinct-rest x l h) k (λ z i. apart z (Memᴰ.tail i)))

  pub distinct-select : (l : List A) (f : A → Bool) → Distinct l → Distinct (select l f)
  unfolding select
  distinct-select [] f h = h
  distinct-select (x ∷ l) f h = side (f x) (distinct-select l f (distinct-rest x l h))
    where
      side : (b : Bool) → Distinct (select l f) → Distinct (pick b (x ∷ select l f) (select l f))
      side true k = distinct-more x (select l f) (λ i. distinct-first x l h (select-out l f i).0) k
      side false k = k

  -- a list without one of its members, which loses nothing else
  cut : {x : A} (m : List A) → x ∈ m → (r : List A) × (length m ≡ suc (length r)) × ((y : A) → y ∈ m → (y ≡ x) ⊎ (y ∈ r))
  cut [] h = absurd (Memᴰ.not-nil h)
  cut {x} (z ∷ m) h =
      elim (Memᴰ.cases_cons h) [
        | inl e ↦ (m, refl, λ y k. ⊎_elim (λ g. inl (g ∙ sym e)) (λ i. inr i) (Memᴰ.cases_cons k))
        | inr i ↦
            let w = cut m i in (
              z ∷ w.0,
              ap suc w.1,
              λ y k.
                  ⊎_elim (λ g. inr (Memᴰ.head g)) (λ j. ⊎_elim (λ g. inl g) (λ q. inr (Memᴰ.tail q)) (w.2 y j))
                  (Memᴰ.cases_cons k),
            )
      ]

  -- what stands in another list is no more than that list is long
  pub distinct-few : (l m : List A) → Distinct l → Within l m → length l ≤ length m
  distinct-few [] m h w = omega arith
  distinct-few (x ∷ l) m h w =
      let c = cut m (w x (Memᴰ.head refl)) in
      let r =
      distinct-few l c.0 (distinct-rest x l h)
      (λ y i. ⊎_elim (λ e. absurd (distinct-first x l h (rw e at i))) (λ k. k) (c.2 y (w y (Memᴰ.tail i)))) in
      omega (arith, r, c.1)

  -- two lists with the same members are as long
  pub distinct-long : (l m : List A) → Distinct l → Distinct m → Within l m → Within m l → length l ≡ length m
  distinct-long l m h k to from = omega (arith, distinct-few l m h to, distinct-few m l k from)

module _ {A B : Type 0} (f : A → B) where
  pub distinct-map : (l : List A) → ((x y : A) → x ∈ l → y ∈ l → f x ≡ f y → x ≡ y) → Distinct l → Distinct (map f l)
  distinct-map [] one h = distinct-none
  distinct-map (x ∷ l) one h =
      distinct-more (f x) (map f l)
      (λ i. let w = map-out f l i in let e = one x w.0 (Memᴰ.head refl) (Memᴰ.tail w.1) w.2 in distinct-first x l h (rw e w.1))
      (distinct-map l (λ y z i j. one y z (Memᴰ.tail i) (Memᴰ.tail j)) (distinct-rest x l h))

distinct-upto : (n i : ℕ) → Distinct (upto n i)
unfolding upto
distinct-upto zero i = distinct-none
distinct-upto (suc n) i = distinct-more i (upto n (suc i)) (λ m. let w = upto-out n (suc i) i m in omega (arith, w.0)) (distinct-upto n (suc i))

pub distinct-numbered : {A : Type 0} (f : ℕ → A) (n : ℕ) → ((i j : ℕ) → f i ≡ f j → i ≡ j) → Distinct (numbered f n)
unfolding numbered
distinct-numbered f n one = distinct-map f (upto n 0) (λ i j a b. one i j) (distinct-upto n 0)

module _ {A B : Type 0} where
  pub distinct-pairs : (xs : List A) (ys : List B) → Distinct xs → Distinct ys → Distinct (pairs xs ys)
  unfolding pairs
  distinct-pairs [] ys h k = distinct-none
  distinct-pairs (x ∷ xs) ys h k =
      distinct-both (map (λ (y : B). (x, y)) ys) (pairs xs ys) (distinct-map (λ (y : B). (x, y)) ys (λ y z i j e. ap (λ (q : A × B). q.1) e) k)
      (distinct-pairs xs ys (distinct-rest x xs h) k)
      (λ q i j. let w = map-out (λ (y : B). (x, y)) ys i in distinct-first x xs h (rw (ap (λ (p : A × B). p.0) w.2) at ((pairs-out xs ys j).0)))

pub rising-distinct : (l : List ℕ) → Rising l → Distinct l
rising-distinct l r = λ i j d a b e.
    let low = get_or_default l i d 0 (omega arith) in
    let high = get_or_default l j d 0 b in
    omega (arith, r.rises i j a b, sym low ∙ e ∙ high)
