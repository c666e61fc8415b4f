-- The rules of a table as pairs of numbers: a kind's things are numbered, and a rule has a row where both its numbers are below n.
use Rattle.std.specs.Prelude.{ℕ, ◌/◌, ◌<◌, ◌≡◌, refl, Bool, true, false, ltb, length}
use Rattle.std.proofs.Common.{◌∙◌}
use Rattle.std.proofs.Math.Path.{ap}
use mathlib.Core.List.{List, [], ◌∷◌, Memᴰ}
use Rattle.std.proofs.Math.Dec.{T}
use Rattle.std.proofs.Math.Facts.{ltb_yes, yes_ltb}
use Rattle.laws.specs.Member.{◌∈◌}
use Rattle.laws.specs.Numbers.{numbered-in, numbered-out}
use Rattle.laws.specs.Search.{and, and_left, and_right, and_both, pick}
use Rattle.laws.specs.Select.{select, select_in, select-out}
use Rattle.meaning.specs.Lent.{field, records, rule_width}
use Rattle.orders.specs.Marks.{Listed}

-- where every element passes, all are selected
select-all : {A : Type 0} (l : List A) (f : A → Bool) → ((x : A) → x ∈ l → T (f x)) → select l f ≡ l
unfolding select
select-all [] f h = refl
select-all {A = A} (x ∷ l) f h = side (f x) (h x (Memᴰ.head refl)) (select-all l f (λ y m. h y (Memᴰ.tail m)))
  where
    side : (b : Bool) → T b → select l f ≡ l → pick b (x ∷ select l f) (select l f) ≡ x ∷ l
    side true t e = ap (λ (r : List A). x ∷ r) e
    side false t e = absurd t

module _ {A : Type 0} (of : ℕ → A) (number : A → ℕ) (n : ℕ) where
  abbrev pub pair_of : List ℕ → ℕ → A × A
  pair_of t k = (of (field rule_width t 0 k), of (field rule_width t 1 k))

  abbrev pub below : A → Bool
  below a = ltb (number a) n

  abbrev pub fits_of : A × A → Bool
  fits_of r = and (below r.0) (below r.1)

  abbrev pub rules_of : List ℕ → List (A × A)
  rules_of t = select (records rule_width pair_of t) fits_of

  -- where every rule has its row, none is passed over
  pub rules-all : (t : List ℕ) → ((r : A × A) → r ∈ records rule_width pair_of t → (number r.0 < n) × (number r.1 < n))
      → rules_of t ≡ records rule_width pair_of t
  rules-all t h =
      select-all (records rule_width pair_of t) fits_of (λ r m.
      let w = h r m in
      and_both (below r.0) (below r.1) (yes_ltb w.0) (yes_ltb w.1))

  module _ (back : (i : ℕ) → number (of i) ≡ i) (t : List ℕ) where
    pub rule-in : {i j : ℕ} → i < n → j < n → Listed t i j → Memᴰ {A = A × A} (of i, of j) (rules_of t)
    unfolding records
    rule-in {i} {j} hi hj (k, h, (p, q)) =
        let r = numbered-in (pair_of t) (length t / rule_width) k h in
        select_in (records rule_width pair_of t) fits_of (rw (p, q) r) (and_both (below (of i)) (below (of j)) (fits i hi) (fits j hj))
      where
        fits : (i : ℕ) → i < n → T (below (of i))
        fits i h = yes_ltb (rw (back i) h)

    pub rule-out : {a b : A} → Memᴰ {A = A × A} (a, b) (rules_of t) → (number a < n) × (number b < n) × Listed t (number a) (number b)
    unfolding records
    rule-out {a} {b} m =
        let s = select-out (records rule_width pair_of t) fits_of m in
        let w = numbered-out (pair_of t) (length t / rule_width) s.0 in
        let p : number a ≡ field rule_width t 0 w.0 = ap (λ (r : A × A). number r.0) w.2 ∙ back _ in
        let q : number b ≡ field rule_width t 1 w.0 = ap (λ (r : A × A). number r.1) w.2 ∙ back _ in (
          ltb_yes (and_left (below a) (below b) s.1),
          ltb_yes (and_right (below a) (below b) s.1),
          (w.0, w.1, (p, q)),
        )
