-- Numbers that rise, and the pairs of role facts among them.
use Rattle.std.specs.Prelude.{◌≡◌, ℕ, zero, suc, ◌+◌, ◌-◌, ◌<◌, ◌≤◌, ◌/◌, List, ◌++◌, length, take, slice_index, nat_eq, IsTrue, slice_index_or, Err}
use Rattle.std.specs.Ordering.{nat_cmp}
use Rattle.std.specs.List.{Any, Contains}
use Rattle.std.specs.List.Sorted.{IsStrictlyIncreasing, IsStrictlySortedBy, IsBinarySearchResult}
use Rattle.std.proofs.Common.{◌∙◌, arith, inl, inr, eq-or-lt_of_le, eqb-true}
use Rattle.std.proofs.lemmas.List.{get_or_default, get_or-take, take-append-le, length-take-le}
use Rattle.std.proofs.lemmas.Map.Keys.{IsStrictlyIncreasing-from_sorted}
use Rattle.std.proofs.lemmas.List.Sorted.{searched}
use Rattle.std.proofs.Math.Decide.{dec_lt}
use Rattle.meaning.specs.Lent.{role_fact_width, most_role_facts}
use Rattle.sift.specs.Pairs.{pair_at, ArePairs}

module _ (l : List ℕ) (h : IsStrictlyIncreasing l) where
  -- an earlier number is less than a later one
  from-here : (i d : ℕ) → i + 1 + d < length l → slice_index l i < slice_index l (i + 1 + d)
  from-here i zero k = let a = h i (omega arith) in let e : i + 1 + 0 ≡ i + 1 = omega arith in rw e a
  from-here i (suc d) k =
      let a = from-here i d (omega arith) in
      let b = h (i + 1 + d) (omega arith) in
      let e : i + 1 + suc d ≡ i + 1 + d + 1 = omega arith in
      rw e (omega arith)

  pub rises-to : (i j : ℕ) → i < j → j < length l → slice_index l i < slice_index l j
  rises-to i j k m =
      let e : i + 1 + (j - (i + 1)) ≡ j = omega arith in
      let a = from-here i (j - (i + 1)) (omega arith) in
      rw e at a

  pub not-falls : (i j : ℕ) → i ≤ j → j < length l → slice_index l i ≤ slice_index l j
  not-falls i j k m = elim (eq-or-lt_of_le k) [ inl e ↦ rw e (omega arith) | inr n ↦ let a = rises-to i j n m in omega arith ]

  -- a number stands at one place
  pub one-place : (i j : ℕ) → i < length l → j < length l → slice_index l i ≡ slice_index l j → i ≡ j
  one-place i j a b e = elim (dec_lt i j) [
    | yes k ↦ let c = rises-to i j k b in absurd (omega arith)
    | no n ↦ elim (dec_lt j i) [ yes k ↦ let c = rises-to j i k a in absurd (omega arith) | no m ↦ omega arith ]
  ]

  -- what stands among them is found
  pub found : (x i : ℕ) → Contains l x → IsBinarySearchResult (λ y. nat_cmp y x) l (Err i) → ⊥
  found x i w b =
      let s = searched l x (Err i) b not-falls in
      let e = get_or_default l w.0 0 x w.1 ∙ w.2 in
      elim (dec_lt w.0 i) [
        | yes k ↦ let a = s.1 w.0 k in omega arith
        | no n ↦ let a = s.2 w.0 (omega arith) w.1 in omega arith
      ]

-- what `tidy` makes of the pairs of all role facts
pub made : (facts room new post : List ℕ) (used kept : ℕ) → length facts / role_fact_width ≤ most_role_facts → length room ≡ most_role_facts
    → used ≡ length facts / role_fact_width → ((k : ℕ) → k < used → slice_index room k ≡ pair_at facts k) → kept ≤ length (take used room)
    → length new ≡ length (take used room) → IsStrictlySortedBy nat_cmp (take kept new)
    → ((x : ℕ) → Contains (take used room) x → Any (λ y. IsTrue (nat_eq x y)) (take kept new)) → ArePairs facts (take kept (new ++ post))
made facts room new post used kept few long count written within same rises keeps =
    let room-long : length (take used room) ≡ used = length-take-le used room (omega arith) in
    rw (take-append-le kept new post (omega arith))
    (record {
      few = let l = length-take-le kept new (omega arith) in omega arith;
      rises = IsStrictlyIncreasing-from_sorted (take kept new) rises;
      has = λ k l.
          let at : slice_index_or (take used room) k (pair_at facts k) ≡ pair_at facts k =
          get_or-take used room k (pair_at facts k) (omega arith) ∙ get_or_default room k (pair_at facts k) 0 (omega arith)
          ∙ written k (omega arith) in
          let w = keeps (pair_at facts k) (k, omega arith, at) in
          let e = eqb-true (pair_at facts k) w.1 w.4 in
          rw e (w.0, w.2, w.3);
    })
