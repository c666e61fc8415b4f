-- Lists that rise strictly in a total order: two that have the same members are equal.
use Rattle.std.specs.Prelude.{◌≡◌, ◌↔◌, refl, ◌⊎◌, List, [], ◌∷◌, ◌++◌, map}
use Rattle.std.specs.Ordering.{ordering_reverse}
use Rattle.std.specs.declared.cmp.Ordering.{Ordering}
use Rattle.std.specs.declared.cmp.Ordering.TheVariants.{Less, Equal, Greater}
use Rattle.std.specs.Cmp.{IsTotalOrder}
use Rattle.std.specs.List.{AllByRecursion}
use Rattle.std.specs.List.Sorted.{IsStrictlySortedBy}
use Rattle.std.proofs.Common.{sym, ap, ◌∙◌, inl, inr}
use mathlib.Core.List.Memᴰ
use Rattle.laws.specs.Member.{◌∈◌, Within, map-out, all-out, all-in}
use Rattle.laws.specs.Distinct.{Distinct, distinct-none, distinct-more}

module _ {X : Type 0} (R : X → X → Ordering) where
  pub rises-rest : (x : X) (l : List X) → IsStrictlySortedBy R (x ∷ l) → IsStrictlySortedBy R l
  unfolding IsStrictlySortedBy
  rises-rest x l h = h.1

  -- an element is below each that comes after it
  pub rises-first : (x : X) (l : List X) → IsStrictlySortedBy R (x ∷ l) → (y : X) → y ∈ l → R x y ≡ Less
  unfolding IsStrictlySortedBy
  rises-first x l h = all-out (λ y. R x y ≡ Less) l h.0

  pub rises-across : (l : List X) (x : X) (m : List X) → IsStrictlySortedBy R (l ++ x ∷ m) → (y : X) → y ∈ l → R y x ≡ Less
  rises-across [] x m h y i = absurd (Memᴰ.not-nil i)
  rises-across (z ∷ l) x m h y i = side (Memᴰ.cases_cons i) (rises-across l x m (rises-rest z (l ++ x ∷ m) h) y)
    where
      side : (y ≡ z) ⊎ (y ∈ l) → (y ∈ l → R y x ≡ Less) → R y x ≡ Less
      side (inl e) on = rw e (rises-first z (l ++ x ∷ m) h x (Memᴰ.append_right l (Memᴰ.head refl)))
      side (inr k) on = on k

  -- two lists in a row rise where every element of the first is below every one of the second
  pub rises-both : (l m : List X) → IsStrictlySortedBy R l → IsStrictlySortedBy R m → ((x y : X) → x ∈ l → y ∈ m → R x y ≡ Less)
      → IsStrictlySortedBy R (l ++ m)
  unfolding IsStrictlySortedBy
  rises-both [] m h k below = k
  rises-both (x ∷ l) m h k below =
      (all-in (λ y. R x y ≡ Less) (l ++ m) (λ y i. side y (Memᴰ.append_cases l i)), rises-both l m h.1 k (λ y z i. below y z (Memᴰ.tail i)))
    where
      side : (y : X) → (y ∈ l) ⊎ (y ∈ m) → R x y ≡ Less
      side y (inl i) = all-out (λ y. R x y ≡ Less) l h.0 y i
      side y (inr i) = below x y (Memᴰ.head refl) i

-- what goes over into another order rises there
pub rises-map : {X Y : Type 0} (R : X → X → Ordering) (S : Y → Y → Ordering) (f : X → Y) → ((x y : X) → R x y ≡ Less → S (f x) (f y) ≡ Less)
    → (l : List X) → IsStrictlySortedBy R l → IsStrictlySortedBy S (map f l)
unfolding IsStrictlySortedBy
rises-map R S f over [] h = tt
rises-map R S f over (x ∷ l) h =
    let below : (z : _) → z ∈ map f l → S (f x) z ≡ Less =
    λ z i. let w = map-out f l i in rw w.2 (over x w.0 (all-out (λ y. R x y ≡ Less) l h.0 w.0 w.1)) in
    (all-in (λ z. S (f x) z ≡ Less) (map f l) below, rises-map R S f over l h.1)

module _ {X : Type 0} (R : X → X → Ordering) (o : IsTotalOrder R) where
  -- nothing is below itself
  pub not-below : (x : X) → R x x ≡ Less → ⊥
  not-below x e = let t : Less ≡ ordering_reverse Less = sym e ∙ o.antisymm x x ∙ ap ordering_reverse e in cc

  -- THEOREM: two lists that rise strictly and have the same members are equal
  pub strict-once : (xs ys : List X) → IsStrictlySortedBy R xs → IsStrictlySortedBy R ys → Within xs ys → Within ys xs → xs ≡ ys
  unfolding IsStrictlySortedBy
  strict-once [] [] h k f g = refl
  strict-once [] (y ∷ ys) h k f g = absurd (Memᴰ.not-nil (g y (Memᴰ.head refl)))
  strict-once (x ∷ xs) [] h k f g = absurd (Memᴰ.not-nil (f x (Memᴰ.head refl)))
  strict-once (x ∷ xs) (y ∷ ys) h k f g = together heads (λ p q. strict-once xs ys h.1 k.1 p q)
    where
      -- both lists begin with the same element: else each would be below the other
      heads : x ≡ y
      heads = side (Memᴰ.cases_cons (f x (Memᴰ.head refl))) (Memᴰ.cases_cons (g y (Memᴰ.head refl)))
        where
          side : (x ≡ y) ⊎ (x ∈ ys) → (y ≡ x) ⊎ (y ∈ xs) → x ≡ y
          side (inl e) d = e
          side (inr m) (inl e) = sym e
          side (inr m) (inr n) =
              let a = all-out (λ z. R y z ≡ Less) ys k.0 x m in
              let b = all-out (λ z. R x z ≡ Less) xs h.0 y n in
              absurd (not-below x (o.trans x y x b a))

      -- and a later element of one is a later element of the other
      later : {l m : List X} {u v : X} → u ≡ v → AllByRecursion (λ z. R u z ≡ Less) l → Within (u ∷ l) (v ∷ m) → Within l m
      later {l} {m} {u} {v} e a i z n = side (Memᴰ.cases_cons (i z (Memᴰ.tail n)))
        where
          side : (z ≡ v) ⊎ (z ∈ m) → z ∈ m
          side (inr j) = j
          side (inl j) =
              let b = all-out (λ t. R u t ≡ Less) l a z n in
              let q : z ≡ u = j ∙ sym e in
              absurd (not-below u (rw q at b))

      together : x ≡ y → (Within xs ys → Within ys xs → xs ≡ ys) → x ∷ xs ≡ y ∷ ys
      together e r = λ i. e i ∷ r (later e h.0 f) (later (sym e) k.0 g) i

  -- each element stands once
  pub rises-distinct : (l : List X) → IsStrictlySortedBy R l → Distinct l
  rises-distinct [] h = distinct-none
  rises-distinct (x ∷ l) h =
      distinct-more x l (λ m. not-below x (rises-first R x l h x m)) (rises-distinct l (rises-rest R x l h))

  -- x put into a list that rises, unless one stands there that the order does not tell from it
  put-as : Ordering → X → X → List X → List X → List X
  put-as Less x y l more = x ∷ y ∷ l
  put-as Equal x y l more = y ∷ l
  put-as Greater x y l more = y ∷ more

  put : X → List X → List X
  put x [] = x ∷ []
  put x (y ∷ l) = put-as (R x y) x y l (put x l)

  put-out : (x : X) (l : List X) {z : X} → z ∈ put x l → (z ≡ x) ⊎ (z ∈ l)
  unfolding put-as put
  put-out x [] {z} m = Memᴰ.cases_cons m
  put-out x (y ∷ l) {z} m = by (R x y) m (put-out x l)
    where
      later : (z ≡ x) ⊎ (z ∈ l) → (z ≡ x) ⊎ (z ∈ (y ∷ l))
      later (inl e) = inl e
      later (inr i) = inr (Memᴰ.tail i)

      by : (r : Ordering) → z ∈ put-as r x y l (put x l) → (z ∈ put x l → (z ≡ x) ⊎ (z ∈ l)) → (z ≡ x) ⊎ (z ∈ (y ∷ l))
      by Less m on = Memᴰ.cases_cons m
      by Equal m on = inr m
      by Greater m on = elim (Memᴰ.cases_cons m) [ inl e ↦ inr (Memᴰ.head e) | inr i ↦ later (on i) ]

  put-keeps : (x : X) (l : List X) {z : X} → z ∈ l → z ∈ put x l
  unfolding put-as put
  put-keeps x [] m = Memᴰ.tail m
  put-keeps x (y ∷ l) {z} m = by (R x y) (put-keeps x l)
    where
      by : (r : Ordering) → (z ∈ l → z ∈ put x l) → z ∈ put-as r x y l (put x l)
      by Less on = Memᴰ.tail m
      by Equal on = m
      by Greater on = elim (Memᴰ.cases_cons m) [ inl e ↦ Memᴰ.head e | inr i ↦ Memᴰ.tail (on i) ]

  put-has : (x : X) (l : List X) → ((y : X) → y ∈ l → R x y ≡ Equal → x ≡ y) → x ∈ put x l
  unfolding put-as put
  put-has x [] one = Memᴰ.head refl
  put-has x (y ∷ l) one = by (R x y) refl (put-has x l (λ z i. one z (Memᴰ.tail i)))
    where
      by : (r : Ordering) → R x y ≡ r → x ∈ put x l → x ∈ put-as r x y l (put x l)
      by Less e on = Memᴰ.head refl
      by Equal e on = Memᴰ.head (one y (Memᴰ.head refl) e)
      by Greater e on = Memᴰ.tail on

  put-rises : (x : X) (l : List X) → IsStrictlySortedBy R l → IsStrictlySortedBy R (put x l)
  unfolding put-as put IsStrictlySortedBy
  put-rises x [] h = (tt, tt)
  put-rises x (y ∷ l) h = by (R x y) refl (put-rises x l h.1)
    where
      by : (r : Ordering) → R x y ≡ r → IsStrictlySortedBy R (put x l) → IsStrictlySortedBy R (put-as r x y l (put x l))
      by Less e on = ((e, all-in (λ z. R x z ≡ Less) l (λ z i. o.trans x y z e (all-out (λ z. R y z ≡ Less) l h.0 z i))), h)
      by Equal e on = h
      by Greater e on = (all-in (λ z. R y z ≡ Less) (put x l) (λ z i. first z (put-out x l i)), on)
        where
          first : (z : X) → (z ≡ x) ⊎ (z ∈ l) → R y z ≡ Less
          first z (inl i) = rw i (o.antisymm y x ∙ ap ordering_reverse e)
          first z (inr i) = all-out (λ z. R y z ≡ Less) l h.0 z i

  -- the list m rises and has the members of l
  abbrev pub IsInOrder : List X → List X → Type 0
  IsInOrder l m = IsStrictlySortedBy R m × ((x : X) → (x ∈ m) ↔ (x ∈ l))

  -- where the order tells its elements apart, a list has one that rises and has the same members
  pub rises-there : (l : List X) → ((x y : X) → x ∈ l → y ∈ l → R x y ≡ Equal → x ≡ y) → (m : List X) × IsInOrder l m
  unfolding IsStrictlySortedBy
  rises-there [] one = ([], (tt, λ x. (λ i. i, λ i. i)))
  rises-there (x ∷ l) one = more (rises-there l (λ y z i j. one y z (Memᴰ.tail i) (Memᴰ.tail j)))
    where
      more : (m : List X) × IsInOrder l m → (m : List X) × IsInOrder (x ∷ l) m
      more w = (put x w.0, (put-rises x w.0 w.1.0, λ z. (λ i. out z (put-out x w.0 i), λ i. into z (Memᴰ.cases_cons i))))
        where
          out : (z : X) → (z ≡ x) ⊎ (z ∈ w.0) → z ∈ (x ∷ l)
          out z (inl e) = Memᴰ.head e
          out z (inr i) = Memᴰ.tail ((w.1.1 z).0 i)

          into : (z : X) → (z ≡ x) ⊎ (z ∈ l) → z ∈ put x w.0
          into z (inl e) = rw e (put-has x w.0 (λ y i. one x y (Memᴰ.head refl) (Memᴰ.tail ((w.1.1 y).0 i))))
          into z (inr i) = put-keeps x w.0 ((w.1.1 z).1 i)
