-- The area that holds a sheet: it can be computed, and there is only one.
use Rattle.std.specs.Prelude.{◌≡◌, ◌↔◌, refl, Bool, List, ℕ, zero, suc, ◌+◌, ◌*◌, ◌/◌, ◌%◌, ◌^◌, ◌≤◌, ◌<◌, T, ltb, length, get_or}
use Rattle.std.specs.Int.{bit_at}
use Rattle.std.proofs.Common.{sym, ap, ◌∙◌, arith, ltb→lt, lt→ltb, ext_get_or}
use Rattle.std.proofs.Math.Decide.{dec_lt}
use Rattle.std.proofs.Math.Nat.{mul_assoc, mul-le-mul, le_refl}
use Rattle.std.proofs.lemmas.Nat.{div-mul-add, mod-mul-add, div-add-mod'}
use Rattle.std.proofs.Math.ListN.{get_or-eq_default}
use Rattle.std.proofs.lemmas.Nat.Bits.{bit_at-lt, bit_at-suc, bit_at-zero, bit_at_lowest, same_from_bits_below}
use Rattle.kinds.specs.declared.State.{State}
use Rattle.kinds.specs.declared.Concept.{Concept}
use Rattle.kinds.specs.declared.Concept.TheVariants.{Name, Exists}
use Rattle.kinds.specs.declared.Counts.{Counts}
use Rattle.kinds.specs.Kinds.{most_states, state, number_of, concept_of, number-concept, concept-number, CountsFit, StateDeclared, ConceptDeclared}
use Rattle.laws.specs.Search.{and, and_left, and_right, and_both}
use Rattle.laws.specs.Count.{bit, bit-one, bit-set, bit_is}
use Rattle.laws.specs.Numbers.{numbered, length-numbered, get_d_numbered}
use Rattle.meaning.specs.Layout.{concept_numbers, place_by, place, place_count_by, place_count, byte_bits, area_length_by, area_length, bit_in, PacksBy, Packs, IsPlaceBy, LaysBy, Lays}

-- bit j of byte i is at the place 8 × i + j
pub byte_of_place : (i j : ℕ) → j < byte_bits → (byte_bits * i + j) / byte_bits ≡ i
byte_of_place i j h = omega arith

pub bit_of_place : (i j : ℕ) → j < byte_bits → (byte_bits * i + j) % byte_bits ≡ j
bit_of_place i j h = omega arith

-- nothing stands past the last byte
pub bit_past_by : (n : ℕ) (area : List ℕ) (p : ℕ) → length area ≡ area_length_by n → place_count_by n ≤ p → bit_in area p ≡ 0
bit_past_by n area p e h = rw (get_or-eq_default area 0 {n = p / byte_bits} (omega (arith, e))) (bit_at-zero (p % byte_bits))

pub bit_past : (area : List ℕ) (p : ℕ) → length area ≡ area_length → place_count ≤ p → bit_in area p ≡ 0
bit_past = bit_past_by most_states

pub same_bit : (a b : ℕ) → a < 2 → b < 2 → (a ≡ 1 → b ≡ 1) → (b ≡ 1 → a ≡ 1) → a ≡ b
same_bit zero zero i j u v = refl
same_bit zero (suc b) i j u v = let e : suc b ≡ 1 = omega arith in let g = v e in absurd (omega arith)
same_bit (suc a) b i j u v = let e : suc a ≡ 1 = omega arith in let g = u e in omega arith

-- two areas with the same at every place are equal
pub same_areas : (x y : List ℕ) → length x ≡ length y
    → ((i : ℕ) → get_or x i 0 < 2 ^ byte_bits) → ((i : ℕ) → get_or y i 0 < 2 ^ byte_bits)
    → ((p : ℕ) → bit_in x p ≡ bit_in y p) → x ≡ y
same_areas x y e small small' same = ext_get_or 0 x y e (λ i l. same_from_bits_below byte_bits _ _ (small i) (small' i) (at i))
  where
    at : (i j : ℕ) → j < byte_bits → bit_at (get_or x i 0) j ≡ bit_at (get_or y i 0) j
    at i j h = rw (byte_of_place i j h, bit_of_place i j h) at (same (byte_bits * i + j))

-- LAW: two areas that have 1 at the same places are equal
pub packs-once-by : (n : ℕ) (P : ℕ → Type 0) (x y : List ℕ) → PacksBy n P x → PacksBy n P y → x ≡ y
packs-once-by n P x y h k = same_areas x y (h.long ∙ sym k.long) h.bytes k.bytes (λ p. same_bit (bit_in x p) (bit_in y p) (bit_at-lt _ _) (bit_at-lt _ _) (λ e. (k.marks p).1 ((h.marks p).0 e)) (λ e. (h.marks p).1 ((k.marks p).0 e)))

pub packs-once : (P : ℕ → Type 0) (x y : List ℕ) → Packs P x → Packs P y → x ≡ y
packs-once = packs-once-by most_states

-- two areas that hold one sheet are equal
pub lays-once-by : (n : ℕ) (f : State → State → Concept → Type 0) (x y : List ℕ) → LaysBy n f x → LaysBy n f y → x ≡ y
lays-once-by n f = packs-once-by n (IsPlaceBy n f)

pub lays-once : (f : State → State → Concept → Type 0) (x y : List ℕ) → Lays f x → Lays f y → x ≡ y
lays-once = lays-once-by most_states

-- two sheets with the same marks are held by the same areas
pub same-lays : (n : ℕ) (f g : State → State → Concept → Type 0) (area : List ℕ) → ((s t : State) (B : Concept) → f s t B ↔ g s t B)
    → LaysBy n f area → LaysBy n g area
same-lays n f g area same l = record {
  long = l.long;
  bytes = l.bytes;
  marks = λ p. (
    λ e. let w = (l.marks p).0 e in (w.0, w.1, w.2, (same w.0 w.1 w.2).0 w.3, w.4),
    λ w. (l.marks p).1 (w.0, w.1, w.2, (same w.0 w.1 w.2).1 w.3, w.4),
  );
}

-- ---- an area from a test of its places

-- the number whose bit i is b i, of n bits
pub from_bits : ℕ → (ℕ → Bool) → ℕ
from_bits zero b = 0
from_bits (suc n) b = bit (b 0) + 2 * from_bits n (λ i. b (suc i))

from_bits-fits : (n : ℕ) (b : ℕ → Bool) → from_bits n b < 2 ^ n
unfolding from_bits
from_bits-fits zero b = omega arith
from_bits-fits (suc n) b = omega (arith, bit-one (b 0), from_bits-fits n (λ i. b (suc i)))

bit_at-from_bits : (n : ℕ) (b : ℕ → Bool) (i : ℕ) → i < n → bit_at (from_bits n b) i ≡ bit (b i)
unfolding from_bits
bit_at-from_bits zero b i h = absurd (omega arith)
bit_at-from_bits (suc n) b zero h =
    let e : (bit (b 0) + 2 * from_bits n (λ i. b (suc i))) % 2 ≡ bit (b 0) = omega (arith, bit-one (b 0)) in
    bit_at_lowest (from_bits (suc n) b) ∙ e
bit_at-from_bits (suc n) b (suc i) h =
    let e : (bit (b 0) + 2 * from_bits n (λ i. b (suc i))) / 2 ≡ from_bits n (λ i. b (suc i)) = omega (arith, bit-one (b 0)) in
    bit_at-suc (from_bits (suc n) b) i ∙ rw e (bit_at-from_bits n (λ i. b (suc i)) i (omega arith))

-- byte i of the area whose places are those that pass
abbrev byte_from : (ℕ → Bool) → ℕ → ℕ
byte_from b i = from_bits byte_bits (λ j. b (byte_bits * i + j))

unfoldable pub packed : ℕ → (ℕ → Bool) → List ℕ
packed n b = numbered (byte_from b) (area_length_by n)

-- the places fill whole bytes
places-fill : (n : ℕ) → place_count_by n ≡ n * n * concept_numbers
places-fill n = sym (mul_assoc n n concept_numbers)

module _ (n : ℕ) (b : ℕ → Bool) where
  pub packed-long : length (packed n b) ≡ area_length_by n
  unfolding packed
  packed-long = length-numbered (byte_from b) (area_length_by n)

  packed_byte : (i : ℕ) → i < area_length_by n → get_or (packed n b) i 0 ≡ byte_from b i
  unfolding packed
  packed_byte i h = get_d_numbered (byte_from b) (area_length_by n) i 0 h

  pub packed-bytes : (i : ℕ) → get_or (packed n b) i 0 < 2 ^ byte_bits
  packed-bytes i =
      elim (dec_lt i (area_length_by n)) [
        | yes l ↦ rw (packed_byte i l) (from_bits-fits byte_bits (λ j. b (byte_bits * i + j)))
        | no l ↦ let z = get_or-eq_default (packed n b) 0 {n = i} (omega (arith, packed-long)) in omega (arith, z)
      ]

  pub packed-bit : (p : ℕ) → p < place_count_by n → bit_in (packed n b) p ≡ bit (b p)
  packed-bit p h =
      let e : byte_bits * (p / byte_bits) + p % byte_bits ≡ p = omega arith in
      rw (packed_byte (p / byte_bits) (omega (arith, places-fill n))) (rw e at (bit_at-from_bits byte_bits (λ j. b (byte_bits * (p / byte_bits) + j)) (p % byte_bits) (omega arith)))

-- the state, state and concept of a place
abbrev pub state_of : ℕ → ℕ → State
state_of n p = state (p / concept_numbers / n)

abbrev pub next_of : ℕ → ℕ → State
next_of n p = state (p / concept_numbers % n)

abbrev pub concept_at : ℕ → Concept
concept_at p = concept_of (p % concept_numbers)

-- a place goes by the pair of states, and then by the concept
by-pairs : (n s t b : ℕ) → s * (n * concept_numbers) + t * concept_numbers + b ≡ (s * n + t) * concept_numbers + b
by-pairs n s t b = let e = mul_assoc s n concept_numbers in omega (arith, e)

pub place_of : (n p : ℕ) → place_by n (state_of n p) (next_of n p) (concept_at p) ≡ p
place_of n p =
    let e = number-concept (p % concept_numbers) in
    let d = div-add-mod' (p / concept_numbers) n in
    let r = by-pairs n (p / concept_numbers / n) (p / concept_numbers % n) (number_of (concept_at p)) in
    omega (arith, e, d, r)

-- whether each is declared, as tests
abbrev pub state_declared : Counts → State → Bool
state_declared c s = ltb s.0 c.states

abbrev pub concept_declared : Counts → Concept → Bool
concept_declared c (Name A) = ltb A.0 c.names
concept_declared c (Exists R) = ltb R.0 (2 * c.roles)

pub concept_declared-in : (c : Counts) (C : Concept) → ConceptDeclared c C → T (concept_declared c C)
concept_declared-in c (Name A) h = lt→ltb A.0 c.names h
concept_declared-in c (Exists R) h = lt→ltb R.0 (2 * c.roles) h

pub concept_declared-out : (c : Counts) (C : Concept) → T (concept_declared c C) → ConceptDeclared c C
concept_declared-out c (Name A) h = ltb→lt A.0 c.names h
concept_declared-out c (Exists R) h = ltb→lt R.0 (2 * c.roles) h

-- a declared mark of the sheet f
unfoldable pub declared_mark : Counts → (State → State → Concept → Bool) → State → State → Concept → Bool
declared_mark c f s t B =
    let d = f s t B in
    let b = and (concept_declared c B) d in
    let a = and (state_declared c t) b in
    and (state_declared c s) a

-- the area for n states that holds the sheet f
abbrev pub image : ℕ → Counts → (State → State → Concept → Bool) → List ℕ
image n c f = packed n (λ p. declared_mark c f (state_of n p) (next_of n p) (concept_at p))

module _ (c : Counts) (fit : CountsFit c) where
  pub number-below : (C : Concept) → ConceptDeclared c C → number_of C < concept_numbers
  unfolding number_of
  number-below (Name A) h = omega (arith, fit.names)
  number-below (Exists R) h = omega (arith, fit.roles)

  concept-of-number : (B : Concept) → ConceptDeclared c B → concept_of (number_of B) ≡ B
  concept-of-number B d = concept-number c fit.names B d

  module _ (n : ℕ) where
    place-below : (s t : State) (B : Concept) → s.0 < n → t.0 < n → ConceptDeclared c B → place_by n s t B < place_count_by n
    place-below s t B h k d =
        let l : s.0 + 1 ≤ n = omega arith in
        let m = mul-le-mul l (le_refl n) in
        omega (arith, number-below B d, by-pairs n s.0 t.0 (number_of B), places-fill n, m)

    pair-of-place : (s t : State) (B : Concept) → ConceptDeclared c B → place_by n s t B / concept_numbers ≡ s.0 * n + t.0
    pair-of-place s t B d = omega (arith, number-below B d, by-pairs n s.0 t.0 (number_of B))

    state-of-place : (s t : State) (B : Concept) → t.0 < n → ConceptDeclared c B → state_of n (place_by n s t B) ≡ s
    state-of-place s t B k d = rw (pair-of-place s t B d) (ap state (div-mul-add s.0 n t.0 k))

    next-of-place : (s t : State) (B : Concept) → t.0 < n → ConceptDeclared c B → next_of n (place_by n s t B) ≡ t
    next-of-place s t B k d = rw (pair-of-place s t B d) (ap state (mod-mul-add s.0 n t.0 k))

    concept-of-place : (s t : State) (B : Concept) → ConceptDeclared c B → concept_at (place_by n s t B) ≡ B
    concept-of-place s t B d =
        let e : place_by n s t B % concept_numbers ≡ number_of B = omega (arith, number-below B d, by-pairs n s.0 t.0 (number_of B)) in
        ap concept_of e ∙ concept-of-number B d

    -- two marks at one place are one
    pub place-once-by : (s t : State) (B : Concept) (s' t' : State) (B' : Concept)
        → t.0 < n → ConceptDeclared c B → t'.0 < n → ConceptDeclared c B'
        → place_by n s t B ≡ place_by n s' t' B' → (s ≡ s') × (t ≡ t') × (B ≡ B')
    place-once-by s t B s' t' B' k d k' d' e = (
      sym (state-of-place s t B k d) ∙ ap (state_of n) e ∙ state-of-place s' t' B' k' d',
      sym (next-of-place s t B k d) ∙ ap (next_of n) e ∙ next-of-place s' t' B' k' d',
      sym (concept-of-place s t B d) ∙ ap concept_at e ∙ concept-of-place s' t' B' d',
    )

    -- the area of a test of marks holds the sheet that the test decides
    module _ (F : State → State → Concept → Type 0) (test : State → State → Concept → Bool)
        (low : (s t : State) (B : Concept) → F s t B → (s.0 < n) × (t.0 < n) × ConceptDeclared c B)
        (into : (s t : State) (B : Concept) → F s t B → T (test s t B))
        (out : (s t : State) (B : Concept) → T (test s t B) → F s t B) where
      stands : ℕ → Bool
      stands p = test (state_of n p) (next_of n p) (concept_at p)

      stands-in : (s t : State) (B : Concept) → F s t B → T (stands (place_by n s t B))
      unfolding stands
      stands-in s t B m =
          let d = low s t B m in
          rw (state-of-place s t B d.1 d.2, next-of-place s t B d.1 d.2, concept-of-place s t B d.2) (into s t B m)

      pub tested-lays : LaysBy n F (packed n (λ p. test (state_of n p) (next_of n p) (concept_at p)))
      unfolding stands
      tested-lays = record { long = packed-long n stands; bytes = packed-bytes n stands; marks = λ p. (to p (dec_lt p (place_count_by n)), from p) }
        where
          to : (p : ℕ) → Dec (p < place_count_by n) → bit_in (packed n stands) p ≡ 1 → IsPlaceBy n F p
          to p (yes l) e = (state_of n p, next_of n p, concept_at p, out (state_of n p) (next_of n p) (concept_at p) (bit_is (stands p) (rw (packed-bit n stands p l) at e)), place_of n p)
          to p (no l) e = let z = bit_past_by n (packed n stands) p (packed-long n stands) (omega arith) in absurd (omega (arith, e, z))

          from : (p : ℕ) → IsPlaceBy n F p → bit_in (packed n stands) p ≡ 1
          from p w =
              let s = w.0 in
              let t = w.1 in
              let B = w.2 in
              let d = low s t B w.3 in
              let l = place-below s t B d.0 d.1 d.2 in
              rw (← w.4) (packed-bit n stands (place_by n s t B) l ∙ bit-set (stands (place_by n s t B)) (stands-in s t B w.3))

  -- two declared marks at one place of today are one
  pub place-once : (s t : State) (B : Concept) (s' t' : State) (B' : Concept)
      → StateDeclared c t → ConceptDeclared c B → StateDeclared c t' → ConceptDeclared c B'
      → place s t B ≡ place s' t' B' → (s ≡ s') × (t ≡ t') × (B ≡ B')
  place-once s t B s' t' B' k d k' d' e =
      place-once-by most_states s t B s' t' B' (omega (arith, fit.states)) d (omega (arith, fit.states)) d' e

  module _ (f : State → State → Concept → Bool) (F : State → State → Concept → Type 0)
      (declared : (s t : State) (B : Concept) → F s t B → StateDeclared c s × StateDeclared c t × ConceptDeclared c B)
      (into : (s t : State) (B : Concept) → F s t B → T (f s t B))
      (out : (s t : State) (B : Concept) → StateDeclared c s → StateDeclared c t → ConceptDeclared c B → T (f s t B) → F s t B) where
    declared-in : (s t : State) (B : Concept) → F s t B → T (declared_mark c f s t B)
    unfolding declared_mark
    declared-in s t B m =
        let d = declared s t B m in
        and_both (state_declared c s) _ (lt→ltb s.0 c.states d.0) (and_both (state_declared c t) _ (lt→ltb t.0 c.states d.1) (and_both (concept_declared c B) (f s t B) (concept_declared-in c B d.2) (into s t B m)))

    declared-out : (s t : State) (B : Concept) → T (declared_mark c f s t B) → F s t B
    unfolding declared_mark
    declared-out s t B h =
        let b = and (concept_declared c B) (f s t B) in
        let a = and (state_declared c t) b in
        let g = and_right (state_declared c s) a h in
        let k = and_right (state_declared c t) b g in
        out s t B (ltb→lt s.0 c.states (and_left (state_declared c s) a h)) (ltb→lt t.0 c.states (and_left (state_declared c t) b g)) (concept_declared-out c B (and_left (concept_declared c B) (f s t B) k)) (and_right (concept_declared c B) (f s t B) k)

    -- the computed area holds the sheet
    pub image-lays-by : (n : ℕ) → c.states ≤ n → LaysBy n F (image n c f)
    image-lays-by n few =
        tested-lays n F (declared_mark c f) (λ s t B m. let d = declared s t B m in let l = d.0 in let k = d.1 in (omega arith, omega arith, d.2)) declared-in declared-out
