-- One byte to a place and one bit to a place hold the same marks.
use Rattle.std.specs.Prelude.{◌≡◌, refl, Bool, ℕ, ◌/◌, ◌%◌, zero, suc, ◌≤◌, ◌<◌, eqb, get_or}
use Rattle.std.proofs.Common.{sym, ◌∙◌, arith, ext_get_or}
use Rattle.std.proofs.Math.Decide.{dec_lt}
use Rattle.std.proofs.Math.ListN.{get_or-eq_default}
use Rattle.std.proofs.lemmas.Nat.Bits.{bit_at-lt}
use Rattle.kinds.specs.declared.State.{State}
use Rattle.kinds.specs.declared.Concept.{Concept}
use Rattle.kinds.specs.Kinds.{most_states}
use Rattle.laws.specs.Count.{bit}
use Rattle.laws.specs.Numbers.{numbered, length-numbered, get_d_numbered}
use Rattle.meaning.specs.Layout.{place_count, byte_bits, bit_in}
use Rattle.meaning.specs.LawsOfSheet.{Marked}
use Rattle.meaning.specs.Bytes.{OneSheetSamePlaces, BytesToBits, BitsToBytes, SameAfterRounds, BothThere, BitsOnce, BytesOnce, BitsThere, BytesThere}
use Rattle.meaning.proofs.CalculateLaws.{sheet-lays}
use Rattle.meaning.proofs.LayoutLaws.{bit_past, same_bit, same_areas, packed, packed-long, packed-bytes, packed-bit}

-- what is at most 1 is one bit
bit_below : (a : ℕ) → a ≤ 1 → a < 2
bit_below a h = omega arith

module _ (f : State → State → Concept → Type 0) where
  -- LAW: where both hold one sheet, byte p of the one is what stands at place p of the other
  pub one-sheet : OneSheetSamePlaces f
  one-sheet wide area b l = record {
    wide-long = b.long;
    area-long = l.long;
    bytes = l.bytes;
    places = λ p. same_bit (get_or wide p 0) (bit_in area p) (bit_below _ (b.small p)) (bit_at-lt _ _) (λ e. (l.marks p).1 ((b.marks p).0 e)) (λ e. (b.marks p).1 ((l.marks p).0 e));
  }

  -- LAW: and where that is so, what the one holds the other holds
  pub to-bits : BytesToBits f
  to-bits wide area s b = record { long = s.area-long; bytes = s.bytes; marks = λ p. rw (s.places p) at (b.marks p) }

  pub to-bytes : BitsToBytes f
  to-bytes wide area s l = record {
    long = s.wide-long;
    small = λ p. let e = s.places p in let h = bit_at-lt (get_or area (p / byte_bits) 0) (p % byte_bits) in omega (arith, e, h);
    marks = λ p. rw (s.places p) (l.marks p);
  }

-- LAW: after every round
pub after-rounds : SameAfterRounds
after-rounds 𝓒 n wide area b = (one-sheet (Marked 𝓒 n) wide area b, λ s. to-bits (Marked 𝓒 n) wide area s b)

-- LAW: each determines the other
pub bits-once : BitsOnce
bits-once wide x y a b = same_areas x y (a.area-long ∙ sym b.area-long) a.bytes b.bytes (λ p. sym (a.places p) ∙ b.places p)

pub bytes-once : BytesOnce
bytes-once v w area a b = ext_get_or 0 v w (a.wide-long ∙ sym b.wide-long) (λ p h. a.places p ∙ sym (b.places p))

-- LAW: to bytes of 0 and 1 there are the bits
pub bits-there : BitsThere
bits-there wide long small = (packed most_states is_one, record { wide-long = long; area-long = packed-long most_states is_one; bytes = packed-bytes most_states is_one; places = λ p. at p (dec_lt p place_count) })
  where
    is_one : ℕ → Bool
    is_one p = eqb (get_or wide p 0) 1

    value : (a : ℕ) → a ≤ 1 → a ≡ bit (eqb a 1)
    value zero h = refl
    value (suc zero) h = refl
    value (suc (suc a)) h = absurd (omega arith)

    at : (p : ℕ) → Dec (p < place_count) → get_or wide p 0 ≡ bit_in (packed most_states is_one) p
    at p (yes l) = value (get_or wide p 0) (small p) ∙ sym (packed-bit most_states is_one p l)
    at p (no l) = get_or-eq_default wide 0 {n = p} (omega (arith, long)) ∙ sym (bit_past (packed most_states is_one) p (packed-long most_states is_one) (omega arith))

-- LAW: and to each area its bytes
pub bytes-there : BytesThere
bytes-there area long bytes = (numbered (bit_in area) place_count, record { wide-long = length-numbered (bit_in area) place_count; area-long = long; bytes = bytes; places = λ p. at p (dec_lt p place_count) })
  where
    at : (p : ℕ) → Dec (p < place_count) → get_or (numbered (bit_in area) place_count) p 0 ≡ bit_in area p
    at p (yes l) = get_d_numbered (bit_in area) place_count p 0 l
    at p (no l) = get_or-eq_default (numbered (bit_in area) place_count) 0 {n = p} (omega (arith, length-numbered (bit_in area) place_count)) ∙ sym (bit_past area p long (omega arith))

-- LAW: after every round of a collection both hold its sheet
pub both-there : BothThere
both-there 𝓒 ok n =
    let lays = sheet-lays 𝓒 ok n in
    let there = bytes-there _ lays.long lays.bytes in
    record {
      wide = there.0;
      area = _;
      bytes-hold = to-bytes (Marked 𝓒 n) there.0 _ there.1 lays;
      bits-hold = lays;
      same = there.1;
    }
