-- The contracts of `sets` leave one answer: a set is known by its members, rows of sets by what they relate.
use Rattle.std.specs.Prelude.{ℕ, ◌≡◌, ◌≢◌, ◌<◌, ◌+◌, ◌*◌, ◌^◌, ◌/◌, ◌%◌, ◌↔◌, true, List, get_or}
use Rattle.std.specs.Int.{bit_at}
use Rattle.std.proofs.Common.{sym, ap, ◌∙◌, arith, rules, ext_get_or}
use Rattle.std.proofs.Math.Decide.{ℕ_discrete, dec_lt}
use Rattle.std.proofs.lemmas.Nat.Bits.{bit_at-lt, bit_at_above, same_from_bits}
use Rattle.sets.specs.Bits.{concept_width, role_width, has, Has, TakesFirst, IsBytesOf}
use Rattle.sets.specs.Rows.{no_concepts, no_roles, concept_marks, role_marks, Fits, ConceptRows, RoleRows}
use Rattle.sets.specs.declared.concepts.ConceptSet.{ConceptSet}
use Rattle.sets.specs.declared.roles.RoleSet.{RoleSet}
use Rattle.sets.proofs.Laws.{past}

same_bit : (a b : ℕ) → a < 2 → b < 2 → (a ≡ 1) ↔ (b ≡ 1) → a ≡ b
same_bit a b la lb s =
    elim (ℕ_discrete a 1) [ yes p ↦ let q = s.0 p in omega arith | no p ↦ let q : b ≢ 1 = (λ e. p (s.1 e)) in omega arith ]

-- THEOREM: two sets with the same members are one
pub set-once : (P : ℕ → Type 0) (m n : ℕ) → ((i : ℕ) → Has m i ↔ P i) → ((i : ℕ) → Has n i ↔ P i) → m ≡ n
set-once P m n p q =
    same_from_bits m n (λ i. same_bit (bit_at m i) (bit_at n i) (bit_at-lt m i) (bit_at-lt n i) (λ x. (q i).1 ((p i).0 x), λ x. (p i).1 ((q i).0 x)))

-- THEOREM: there is one first member, and one rest
pub first-once : (w n j k r s : ℕ) → TakesFirst w n j r → TakesFirst w n k s → (j ≡ k) × (r ≡ s)
first-once w n j k r s p q =
    let e : j ≡ k =
    elim (dec_lt j k) [
      | yes l ↦ absurd (q.least j l p.member)
      | no l ↦ elim (dec_lt k j) [ yes g ↦ absurd (p.least k g q.member) | no g ↦ omega arith ]
    ] in
    (e, set-once (λ i. Has n i × (i ≢ j)) r s p.rest.member (let m = q.rest.member in rw e m))

-- THEOREM: one row of bytes holds a set
pub bytes-once : (m n : ℕ) (a b : List ℕ) → IsBytesOf (8 * m) n a → IsBytesOf (8 * m) n b → a ≡ b
bytes-once m n a b p q = ext_get_or 0 a b (p.long ∙ sym q.long) (λ k h. byte k (omega (arith, p.long)))
  where
    byte : (k : ℕ) → k < m → get_or a k 0 ≡ get_or b k 0
    byte k h = same_from_bits _ _ (λ i. same_bit _ _ (bit_at-lt (get_or a k 0) i) (bit_at-lt (get_or b k 0) i) (λ x. bit i a b p q x, λ x. bit i b a q p x))
      where
        bit : (i : ℕ) (c d : List ℕ) → IsBytesOf (8 * m) n c → IsBytesOf (8 * m) n d → Has (get_or c k 0) i → Has (get_or d k 0) i
        bit i c d s t x =
            let li = past 8 (get_or c k 0) i (s.small k) x in
            let e : (8 * k + i) / 8 ≡ k = omega arith in
            let f : (8 * k + i) % 8 ≡ i = omega arith in
            let u = rw (e, f) at (s.bit (8 * k + i) (omega arith)) in
            let v = rw (e, f) at (t.bit (8 * k + i) (omega arith)) in
            v.1 (u.0 x)

-- THEOREM: two sets of one width with the same members below it are one
pub below-once : (w m n : ℕ) → m < 2 ^ w → n < 2 ^ w → ((i : ℕ) → i < w → has m i ≡ has n i) → m ≡ n
below-once w m n p q each = same_from_bits m n (λ j. bit j (dec_lt j w))
  where
    fact : (x y j : ℕ) → has x j ≡ has y j → Has x j → Has y j
    fact x y j e t = let s : has x j ≡ true = search (rules, t) in search (rules, sym e ∙ s)

    bit : (j : ℕ) → Dec (j < w) → bit_at m j ≡ bit_at n j
    bit j (yes l) = same_bit _ _ (bit_at-lt m j) (bit_at-lt n j) (fact m n j (each j l), fact n m j (sym (each j l)))
    bit j (no g) = bit_at_above m w j p (omega arith) ∙ sym (bit_at_above n w j q (omega arith))

module _ {A : Type 0} (number : A → ℕ) (same : (x y : A) → number x ≡ number y → x ≡ y) (d : A) where
  -- THEOREM: rows that relate the same numbers are the same rows
  pub rows-once : (h w : ℕ) (m n : List A) → Fits number d h w m → Fits number d h w n
      → ((i j : ℕ) → i < h → j < w → has (number (get_or m i d)) j ≡ has (number (get_or n i d)) j) → m ≡ n
  rows-once h w m n p q each =
      ext_get_or d m n (p.long ∙ sym q.long) (λ i l.
      let hi : i < h = omega (arith, p.long) in
      same _ _ (below-once w _ _ (p.small i hi) (q.small i hi) (λ j hj. each i j hi hj)))

-- THEOREM: of sets of concepts, and of signed roles
pub concept_rows_once : (h : ℕ) (m n : List ConceptSet) → ConceptRows h m → ConceptRows h n
    → ((i j : ℕ) → i < h → j < concept_width → concept_marks m i j ≡ concept_marks n i j) → m ≡ n
concept_rows_once h = rows-once (λ (s : ConceptSet). s.0) (λ x y e. ap (λ (n : ℕ). record { 0 = n }) e) no_concepts h concept_width

pub role_rows_once : (h : ℕ) (m n : List RoleSet) → RoleRows h m → RoleRows h n
    → ((i j : ℕ) → i < h → j < role_width → role_marks m i j ≡ role_marks n i j) → m ≡ n
role_rows_once h = rows-once (λ (s : RoleSet). s.0) (λ x y e. ap (λ (n : ℕ). record { 0 = n }) e) no_roles h role_width
