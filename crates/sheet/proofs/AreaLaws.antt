-- The laws of the layout.
use Rattle.std.specs.Prelude.{◌≡◌, refl, ◌↔◌, List, ℕ, ◌+◌, ◌-◌, ◌*◌, ◌/◌, ◌%◌, ◌^◌, ◌<◌, ◌≤◌, ◌++◌, length, get_or, take, drop, replicate}
use Rattle.std.proofs.Common.{sym, ap, ◌∙◌, arith, length-append}
use Rattle.std.proofs.lemmas.List.{length-take, length-take-le, length-drop, get_or-take, get_or-drop, get_or_append_left, get_or-append-add}
use Rattle.std.proofs.lemmas.Slice.{take-put_mid, drop-put_mid}
use borrow.Rule.Slice.PartMut.{put_mid}
use Rattle.std.proofs.Math.Decide.{dec_lt}
use Rattle.std.proofs.Math.ListN.{get_or-eq_default}
use Rattle.kinds.specs.Kinds.{most_states}
use Rattle.sets.specs.Bits.{IsBytesOf}
use Rattle.sets.specs.Rows.{no_concepts}
use Rattle.sets.specs.declared.concepts.ConceptSet.{ConceptSet}
use Rattle.rules.specs.Rows.{most_concepts, pair, At}
use Rattle.sheet.specs.Sheets.{Holds}
use Rattle.meaning.specs.Layout.{place_count, byte_bits, area_length, zeros, bit_in}
use Rattle.meaning.proofs.LayoutLaws.{bit_past}
use Rattle.sheet.specs.Areas.{LaysRows, LaysMarks, IsPlaceOf}

-- the bytes of a row
abbrev row_bytes : ℕ
row_bytes = most_concepts / byte_bits

-- ---- the rows below q

-- the places of the rows below q are laid
pub record Going (sheet : List ConceptSet) (area : List ℕ) (q : ℕ) : Type 0 where
  pub long : length area ≡ area_length
  pub bytes : (i : ℕ) → i < row_bytes * q → get_or area i 0 < 2 ^ byte_bits
  pub marks : (p : ℕ) → p < most_concepts * q → (bit_in area p ≡ 1) ↔ At sheet (p / most_concepts) (p % most_concepts)

pub going_start : (sheet : List ConceptSet) (area : List ℕ) → length area ≡ area_length → Going sheet area 0
going_start sheet area long = record { long = long; bytes = λ i h. absurd (omega arith); marks = λ p h. absurd (omega arith) }

-- bytes from one on, and all others as they were
pub record Puts (k : ℕ) (bytes old new : List ℕ) : Type 0 where
  pub long : length new ≡ length old
  pub within : (i : ℕ) → i < length bytes → get_or new (k + i) 0 ≡ get_or bytes i 0
  pub before : (i : ℕ) → i < k → get_or new i 0 ≡ get_or old i 0
  pub after : (i : ℕ) → k + length bytes ≤ i → get_or new i 0 ≡ get_or old i 0

pub puts : (k n : ℕ) (bytes old : List ℕ) → n ≡ length bytes → k + n ≤ length old → Puts k bytes old (put_mid k n old bytes)
puts k n bytes old e h = record { long = long; within = within; before = before; after = after }
  where
    new : List ℕ
    new = put_mid k n old bytes

    front : take (k + n) new ≡ take k old ++ bytes
    front = take-put_mid k n old bytes (k + n) (omega (arith, e)) (omega arith)

    rest : drop (k + n) new ≡ drop (k + n) old
    rest = drop-put_mid k n old bytes (k + n) (omega arith) (omega arith) (sym e)

    low : length (take k old) ≡ k
    low = length-take-le k old (omega arith)

    long : length new ≡ length old
    long =
        omega (
          arith,
          ap (λ (l : List ℕ). length l) front,
          length-take (k + n) new,
          length-append (take k old) bytes,
          low,
          e,
          ap (λ (l : List ℕ). length l) rest,
          length-drop (k + n) new,
          length-drop (k + n) old,
        )

    within : (i : ℕ) → i < length bytes → get_or new (k + i) 0 ≡ get_or bytes i 0
    within i l =
        let x = get_or-take (k + n) new (k + i) 0 (omega arith) in
        let y = rw low at (get_or-append-add (take k old) bytes i 0) in
        sym x ∙ rw front y

    before : (i : ℕ) → i < k → get_or new i 0 ≡ get_or old i 0
    before i l =
        let x = get_or-take (k + n) new i 0 (omega arith) in
        let y = get_or_append_left (take k old) bytes 0 i (omega (arith, low)) in
        sym x ∙ rw front (y ∙ get_or-take k old i 0 l)

    after : (i : ℕ) → k + length bytes ≤ i → get_or new i 0 ≡ get_or old i 0
    after i l =
        let s : k + n + (i - (k + n)) ≡ i = omega (arith, e) in
        let x = rw s at (get_or-drop (k + n) new (i - (k + n)) 0) in
        let y = rw s at (get_or-drop (k + n) old (i - (k + n)) 0) in
        sym x ∙ rw rest y

pub going_more : (sheet : List ConceptSet) (area bytes : List ℕ) (q n : ℕ) → Going sheet area q → q < most_states * most_states
    → IsBytesOf most_concepts (get_or sheet q no_concepts).0 bytes → n ≡ row_bytes
    → Going sheet (put_mid (row_bytes * q) n area bytes) (q + 1)
going_more sheet area bytes q n g h b e = record {
  long = w.long ∙ g.long;
  bytes = λ i h. byte i h (dec_lt i (row_bytes * q));
  marks = λ p h. mark p h (dec_lt p (most_concepts * q));
}
  where
    next : List ℕ
    next = put_mid (row_bytes * q) n area bytes

    w : Puts (row_bytes * q) bytes area next
    w = puts (row_bytes * q) n bytes area (e ∙ sym b.long) (omega (arith, g.long))

    byte : (i : ℕ) → i < row_bytes * (q + 1) → Dec (i < row_bytes * q) → get_or next i 0 < 2 ^ byte_bits
    byte i h (yes l) = rw (w.before i l) (g.bytes i l)
    byte i h (no l) =
        let s : row_bytes * q + (i - row_bytes * q) ≡ i = omega arith in
        rw (rw s at (w.within (i - row_bytes * q) (omega (arith, b.long)))) (b.small (i - row_bytes * q))

    mark : (p : ℕ) → p < most_concepts * (q + 1) → Dec (p < most_concepts * q)
        → (bit_in next p ≡ 1) ↔ At sheet (p / most_concepts) (p % most_concepts)
    mark p h (yes k) = rw (w.before (p / byte_bits) (omega arith)) (g.marks p k)
    mark p h (no k) =
        let d : p / most_concepts ≡ q = omega arith in
        let i : row_bytes * q + p % most_concepts / byte_bits ≡ p / byte_bits = omega arith in
        let j : p % most_concepts % byte_bits ≡ p % byte_bits = omega arith in
        let f = rw i at (w.within (p % most_concepts / byte_bits) (omega (arith, b.long))) in
        let v = rw j at (b.bit (p % most_concepts) (omega arith)) in
        rw (d, f) v

pub going_end : (sheet : List ConceptSet) (area : List ℕ) (q : ℕ) → most_states * most_states ≤ q → Going sheet area q → LaysRows sheet area
going_end sheet area q h g = record {
  long = g.long;
  bytes = λ i. byte i (dec_lt i area_length);
  marks = λ p. (to p (dec_lt p place_count), λ w. (g.marks p (omega (arith, w.0))).1 w.1);
}
  where
    byte : (i : ℕ) → Dec (i < area_length) → get_or area i 0 < 2 ^ byte_bits
    byte i (yes l) = g.bytes i (omega arith)
    byte i (no l) = let z = get_or-eq_default area 0 {n = i} (omega (arith, g.long)) in omega (arith, z)

    to : (p : ℕ) → Dec (p < place_count) → bit_in area p ≡ 1 → (p < place_count) × At sheet (p / most_concepts) (p % most_concepts)
    to p (yes l) e = (l, (g.marks p (omega arith)).0 e)
    to p (no l) e = let z = bit_past area p g.long (omega arith) in absurd (omega (arith, e, z))

-- LAW: where rows hold the marks of f, the area has 1 at the place of each and at no other
pub lays_marks : (f : ℕ → ℕ → ℕ → Type 0) (sheet : List ConceptSet) (area : List ℕ)
    → ((s t B : ℕ) → f s t B → (s < most_states) × (t < most_states) × (B < most_concepts)) → Holds f sheet
    → LaysRows sheet area → LaysMarks f area
lays_marks f sheet area low h l = record { long = l.long; bytes = l.bytes; marks = λ p. (to p, from p) }
  where
    to : (p : ℕ) → bit_in area p ≡ 1 → IsPlaceOf f p
    to p e =
        let a = (l.marks p).0 e in
        let lt = a.0 in
        let q : p / most_concepts ≡ pair (p / most_concepts / most_states) (p / most_concepts % most_states) = omega arith in (
          p / most_concepts / most_states,
          p / most_concepts % most_states,
          p % most_concepts,
          (h.at (p / most_concepts / most_states) (p / most_concepts % most_states) (p % most_concepts) (omega arith) (omega arith)
              (omega arith)).0 (rw q at a.1),
          omega arith,
        )

    from : (p : ℕ) → IsPlaceOf f p → bit_in area p ≡ 1
    from p (s, t, B, m, e) =
        let w = low s t B m in
        let hs = w.0 in
        let ht = w.1 in
        let hB = w.2 in
        let q : p / most_concepts ≡ pair s t = omega arith in
        let r : p % most_concepts ≡ B = omega arith in
        (l.marks p).1 (omega arith, rw (q, r) ((h.at s t B hs ht hB).1 m))

pub cleared : (n : ℕ) (area : List ℕ) → n ≡ area_length → area ≡ replicate n 0 → area ≡ zeros
cleared n area e a = rw (a, e) refl
