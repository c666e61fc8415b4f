-- The bytes of a stored area, put where they stand today and back.
use Rattle.std.specs.Prelude.{◌≡◌, refl, ◌↔◌, ◌⊎◌, List, ℕ, ◌+◌, ◌*◌, ◌/◌, ◌%◌, ◌^◌, ◌<◌, ◌≤◌, length, get_or, take, drop, replicate}
use Rattle.std.proofs.Common.{sym, ap, ◌∙◌, inl, inr, ⊎_elim, arith, w8}
use Rattle.std.specs.Int.{bit_at, trailing_zeros}
use Rattle.std.proofs.Math.Decide.{dec_lt, ℕ_discrete}
use Rattle.std.proofs.Math.ListN.{get_or-eq_default}
use Rattle.std.proofs.lemmas.List.{length-take-le, length-drop, length-replicate, get_or-take, get_or-drop, get_or-replicate}
use Rattle.std.proofs.lemmas.Nat.Bits.{bit_at-zero, bit_at-trailing_zeros}
use borrow.Rule.Slice.PartMut.{put_mid}
use Rattle.kinds.specs.declared.State.{State}
use Rattle.kinds.specs.declared.Concept.{Concept}
use Rattle.kinds.specs.Kinds.{most_states, number_of}
use Rattle.meaning.specs.Layout.{concept_numbers, place, byte_bits, bit_in}
use Rattle.meaning.specs.Former.{former_states, former_place, Placed, StandsIn, IsMoved, MarksAbove}
use Rattle.meaning.proofs.FormerLaws.{number_low, more, placed, moved-by}
use Rattle.meaning.proofs.LayoutLaws.{state_of, next_of, concept_at, place_of}
use Rattle.sheet.specs.Former.{AreLong, former_row, row, IsAbove, HasAbove, HasRows, IsSpread}
use Rattle.sheet.proofs.AreaLaws.{Puts, puts}

-- a part of a list, at its places there
part-at : (from n : ℕ) (source part : List ℕ) → part ≡ take n (drop from source) → (i : ℕ) → i < n → get_or part i 0 ≡ get_or source (from + i) 0
part-at from n source part e i h = rw e (get_or-take n (drop from source) i 0 h ∙ get_or-drop from source i 0)

part-long : (from n : ℕ) (source part : List ℕ) → part ≡ take n (drop from source) → from + n ≤ length source → length part ≡ n
part-long from n source part e h = rw e (length-take-le n (drop from source) (omega (arith, length-drop from source)))

-- ---- from the stored area

-- the rows below n are put, and nothing else is in the area
pub record Spreading (n : ℕ) (stored area : List ℕ) : Type 0 where
  pub rows : HasRows n stored area
  pub rest : (i : ℕ) → (n * row ≤ i) ⊎ (former_row ≤ i % row) → get_or area i 0 ≡ 0

pub all_zero : (n : ℕ) (l : List ℕ) → l ≡ replicate n 0 → (i : ℕ) → i < length l → get_or l i 0 ≡ 0
all_zero n l e i h =
    let long : length l ≡ n = ap (λ (x : List ℕ). length x) e ∙ length-replicate n 0 in
    rw e (get_or-replicate n i 0 0 (omega (arith, long)))

pub spreading_start : (stored area : List ℕ) → AreLong stored area → ((i : ℕ) → i < length area → get_or area i 0 ≡ 0) → Spreading 0 stored area
spreading_start stored area long zero = record {
  rows = record { long = long; same = λ s i h. absurd (omega arith) };
  rest = λ i h. elim (dec_lt i (length area)) [ yes l ↦ zero i l | no g ↦ get_or-eq_default area 0 {n = i} (omega arith) ];
}

pub spreading_more : (n from to m k : ℕ) (stored area bytes : List ℕ) → Spreading n stored area → n < former_states
    → from ≡ former_row * n → to ≡ row * n → m ≡ former_row → k ≡ former_row
    → bytes ≡ take k (drop from stored)
    → Spreading (n + 1) stored (put_mid to m area bytes)
spreading_more n from to m k stored area bytes v h a z e f b' = rw z (record {
  rows = record {
    long = record { stored-long = v.rows.long.stored-long; area-long = w.long ∙ v.rows.long.area-long };
    same = λ s i l j. same s i l j (ℕ_discrete s n);
  };
  rest = λ i o. rest i o (dec_lt i (row * n)) (dec_lt i (row * n + former_row));
})
  where
    b : bytes ≡ take k (drop (former_row * n) stored)
    b = rw a at b'

    next : List ℕ
    next = put_mid (row * n) m area bytes

    long : length bytes ≡ former_row
    long = part-long (former_row * n) k stored bytes b (omega (arith, f, v.rows.long.stored-long)) ∙ f

    w : Puts (row * n) bytes area next
    w = puts (row * n) m bytes area (e ∙ sym long) (omega (arith, e, v.rows.long.area-long))

    same : (s i : ℕ) → s < n + 1 → i < former_row → Dec (s ≡ n) → get_or next (row * s + i) 0 ≡ get_or stored (former_row * s + i) 0
    same s i l j (yes q) = rw q (w.within i (omega (arith, long)) ∙ part-at (former_row * n) k stored bytes b i (omega (arith, f)))
    same s i l j (no q) = w.before (row * s + i) (omega arith) ∙ v.rows.same s i (omega arith) j

    rest : (i : ℕ) → ((n + 1) * row ≤ i) ⊎ (former_row ≤ i % row) → Dec (i < row * n) → Dec (i < row * n + former_row) → get_or next i 0 ≡ 0
    rest i (inl o) (yes l) g = absurd (omega arith)
    rest i (inr o) (yes l) g = w.before i l ∙ v.rest i (inr o)
    rest i (inl o) (no l) (yes g) = absurd (omega arith)
    rest i (inr o) (no l) (yes g) = absurd (omega arith)
    rest i o (no l) (no g) = w.after i (omega (arith, long)) ∙ v.rest i (inl (omega arith))

pub spreading_end : (n : ℕ) (stored area : List ℕ) → former_states ≤ n → Spreading n stored area → n ≤ former_states → IsSpread stored area
spreading_end n stored area h v l =
    let e : n ≡ former_states = omega arith in
    let w = rw e at v in
    record { rows = w.rows; rest = w.rest }

-- ---- and back

pub rows_start : (stored area : List ℕ) → AreLong stored area → HasRows 0 stored area
rows_start stored area long = record { long = long; same = λ s i h. absurd (omega arith) }

pub rows_more : (n from to m k : ℕ) (stored area bytes : List ℕ) → HasRows n stored area → n < former_states
    → from ≡ row * n → to ≡ former_row * n → m ≡ former_row → k ≡ former_row
    → bytes ≡ take k (drop from area)
    → HasRows (n + 1) (put_mid to m stored bytes) area
rows_more n from to m k stored area bytes v h a z e f b' = rw z (record {
  long = record { stored-long = w.long ∙ v.long.stored-long; area-long = v.long.area-long };
  same = λ s i l j. same s i l j (ℕ_discrete s n);
})
  where
    b : bytes ≡ take k (drop (row * n) area)
    b = rw a at b'

    next : List ℕ
    next = put_mid (former_row * n) m stored bytes

    long : length bytes ≡ former_row
    long = part-long (row * n) k area bytes b (omega (arith, f, v.long.area-long)) ∙ f

    w : Puts (former_row * n) bytes stored next
    w = puts (former_row * n) m bytes stored (e ∙ sym long) (omega (arith, e, v.long.stored-long))

    same : (s i : ℕ) → s < n + 1 → i < former_row → Dec (s ≡ n) → get_or area (row * s + i) 0 ≡ get_or next (former_row * s + i) 0
    same s i l j (yes q) = rw q (sym (part-at (row * n) k area bytes b i (omega (arith, f))) ∙ sym (w.within i (omega (arith, long))))
    same s i l j (no q) = v.same s i (omega arith) j ∙ sym (w.before (former_row * s + i) (omega arith))

-- where no state above 15 is marked nothing else is in the area
pub rows_end : (n : ℕ) (stored area : List ℕ) → former_states ≤ n → n ≤ former_states → HasRows n stored area → (HasAbove area → ⊥)
    → IsSpread stored area
rows_end n stored area h l v none =
    let e : n ≡ former_states = omega arith in
    let w = rw e at v in
    record { rows = w; rest = λ i a. rest i a (ℕ_discrete (get_or area i 0) 0) (dec_lt i (length area)) }
  where
    rest : (i : ℕ) → IsAbove i → Dec (get_or area i 0 ≡ 0) → Dec (i < length area) → get_or area i 0 ≡ 0
    rest i a (yes e) d = e
    rest i a (no ne) (yes l) = absurd (none (record { byte = i; within = l; above = a; some = ne }))
    rest i a (no ne) (no g) = get_or-eq_default area 0 {n = i} (omega arith)

-- ---- marks

-- the bytes of the marks of a pair of states
abbrev pair_bytes : ℕ
pair_bytes = concept_numbers / byte_bits

-- in both areas the byte of a mark, and its bit
module _ (s t : State) (B : Concept) (p : Placed most_states s t B) where
  low : number_of B < concept_numbers
  low = number_low s t B p

  byte-is : place s t B / byte_bits ≡ row * s.0 + (t.0 * pair_bytes + number_of B / byte_bits)
  byte-is = omega arith

  former-byte-is : former_place s t B / byte_bits ≡ former_row * s.0 + (t.0 * pair_bytes + number_of B / byte_bits)
  former-byte-is = omega arith

  bit-is : place s t B % byte_bits ≡ former_place s t B % byte_bits
  bit-is = omega arith

  above : (former_states ≤ s.0) ⊎ (former_states ≤ t.0) → IsAbove (place s t B / byte_bits)
  above (inl h) = inl (omega arith)
  above (inr h) = let l = p.to in inr (omega (arith, low))

module _ (stored area : List ℕ) (v : IsSpread stored area) where
  -- a mark of states below 16 has the same at both its places, and any other has 0
  same-bit : (s t : State) (B : Concept) → Placed former_states s t B → bit_in area (place s t B) ≡ bit_in stored (former_place s t B)
  same-bit s t B p =
      let q = more s t B p in
      let h = p.from in
      let k = p.to in
      let l = low s t B q in
      rw (byte-is s t B q, former-byte-is s t B q, bit-is s t B q, v.rows.same s.0 (t.0 * pair_bytes + number_of B / byte_bits) h (omega arith)) refl

  none-above : (s t : State) (B : Concept) → Placed most_states s t B → (former_states ≤ s.0) ⊎ (former_states ≤ t.0)
      → bit_in area (place s t B) ≡ 0
  none-above s t B p a = rw (v.rest (place s t B / byte_bits) (above s t B p a)) (bit_at-zero (place s t B % byte_bits))

  stands : (s t : State) (B : Concept) → StandsIn most_states area s t B ↔ StandsIn former_states stored s t B
  stands s t B = (
    λ w. to w (dec_lt s.0 former_states) (dec_lt t.0 former_states),
    λ w. record { placed = more s t B w.placed; one = same-bit s t B w.placed ∙ w.one },
  )
    where
      to : StandsIn most_states area s t B → Dec (s.0 < former_states) → Dec (t.0 < former_states) → StandsIn former_states stored s t B
      to w (yes h) (yes k) =
          let p : Placed former_states s t B = record { from = h; to = k; of = w.placed.of } in
          record { placed = p; one = sym (same-bit s t B p) ∙ w.one }
      to w (no h) d = absurd (let z = none-above s t B w.placed (inl (omega arith)) in omega (arith, z, w.one))
      to w (yes h) (no k) = absurd (let z = none-above s t B w.placed (inr (omega arith)) in omega (arith, z, w.one))

  -- LAW: so the one is the other moved
  pub spread-moved : ((i : ℕ) → get_or stored i 0 < 2 ^ byte_bits) → ((i : ℕ) → get_or area i 0 < 2 ^ byte_bits) → IsMoved stored area
  spread-moved small small' =
      moved-by stored area (record { long = v.rows.long.stored-long; bytes = small })
      (record { long = v.rows.long.area-long; bytes = small' }) stands

-- LAW: a byte there has a mark exactly where a state above 15 is marked
module _ (stored area : List ℕ) (long : AreLong stored area) (small : (i : ℕ) → get_or area i 0 < 2 ^ byte_bits) where
  pub above-marks : HasAbove area → MarksAbove area
  above-marks w = record {
    s = state_of most_states p;
    t = next_of most_states p;
    B = concept_at p;
    stands = record { placed = placed most_states p (omega arith) (omega (arith, w.within, long.area-long, bit.0)); one = rw (place_of most_states p) one };
    above = ⊎_elim (λ h. inl (omega (arith, bit.0))) (λ h. inr (omega (arith, bit.0))) w.above;
  }
    where
      x : ℕ
      x = get_or area w.byte 0

      some : 0 < x
      some = elim (ℕ_discrete x 0) [ yes e ↦ absurd (w.some e) | no ne ↦ omega arith ]

      bit : (trailing_zeros w8 x < 8) × (bit_at x (trailing_zeros w8 x) ≡ 1) × ((i : ℕ) → i < trailing_zeros w8 x → bit_at x i ≡ 0)
      bit = bit_at-trailing_zeros w8 x some (small w.byte)

      p : ℕ
      p = byte_bits * w.byte + trailing_zeros w8 x

      one : bit_in area p ≡ 1
      one =
          let e : p / byte_bits ≡ w.byte = omega (arith, bit.0) in
          let d : p % byte_bits ≡ trailing_zeros w8 x = omega (arith, bit.0) in
          rw (e, d) bit.1

  pub marks-above : MarksAbove area → HasAbove area
  marks-above w = record {
    byte = place w.s w.t w.B / byte_bits;
    within = (let l = low w.s w.t w.B w.stands.placed in let h = w.stands.placed.from in let k = w.stands.placed.to in omega (arith, long.area-long));
    above = above w.s w.t w.B w.stands.placed w.above;
    some = λ e. let o = w.stands.one in let z = bit_at-zero (place w.s w.t w.B % byte_bits) in let a = rw e at o in omega (arith, a, z);
  }
