-- The line of some bytes, two characters for each, and the bytes that it is read as.
use Rattle.std.specs.Prelude.{ℕ, zero, suc, ◌+◌, ◌*◌, ◌/◌, ◌%◌, ◌<◌, ◌≤◌, ◌≡◌, List, [], ◌∷◌, All, length, slice_index}
use Rattle.std.specs.List.{flat_map}
use Rattle.std.proofs.Common.{refl, sym, ap, ◌∙◌, arith, get_or}
use Rattle.std.proofs.Math.Path.{fun_ext}
use Rattle.std.proofs.Math.Decide.{dec_lt}
use Rattle.std.proofs.lemmas.Bool.Decides.{nat_tests}
use Rattle.std.proofs.lemmas.Grind.{same_number_lists}
use Rattle.std.proofs.lemmas.List.{get_or_past}
use Rattle.std.proofs.lemmas.List.Elements.{All-get_or, All-from_get_or}
use Rattle.frames.specs.Digits.{digit_of, line_length, bytes, byte_of, LineOk}
use Rattle.frames.specs.Text.{character, characters}
use Rattle.frames.proofs.FieldBytes.{IsByte, AreBytes}

abbrev pub IsDigit : ℕ → Type 0
IsDigit c = digit_of c < 16

abbrev pub spelled : List ℕ → List ℕ
spelled bs = flat_map characters bs

pub length-spelled : (bs : List ℕ) → length (spelled bs) ≡ 2 * length bs
length-spelled [] = refl
length-spelled (b ∷ bs) = omega (arith, length-spelled bs)

pub high-at : (bs : List ℕ) (k : ℕ) → k < length bs → get_or (spelled bs) (2 * k) 0 ≡ character (get_or bs k 0 / 16)
high-at [] k inside = absurd (omega arith)
high-at (b ∷ bs) zero inside = refl
high-at (b ∷ bs) (suc k) inside =
    let e : 2 * suc k ≡ suc (suc (2 * k)) = omega arith in
    rw e (high-at bs k (omega arith))

pub low-at : (bs : List ℕ) (k : ℕ) → k < length bs → get_or (spelled bs) (2 * k + 1) 0 ≡ character (get_or bs k 0 % 16)
low-at [] k inside = absurd (omega arith)
low-at (b ∷ bs) zero inside = refl
low-at (b ∷ bs) (suc k) inside =
    let e : 2 * suc k + 1 ≡ suc (suc (2 * k + 1)) = omega arith in
    rw e (low-at bs k (omega arith))

-- the character of a digit is worth it, and one that is worth a digit is that digit's
pub digit-character : (d : ℕ) → d < 16 → digit_of (character d) ≡ d
unfolding digit_of
digit-character d small = grind (arith, nat_tests)

pub character-digit : (c : ℕ) → digit_of c < 16 → character (digit_of c) ≡ c
unfolding digit_of
character-digit c small = grind (arith, nat_tests)

-- byte k of a line is that of its two characters, and 0 past the line's end
abbrev pair : List ℕ → ℕ → ℕ
pair l k = 16 * digit_of (slice_index l (2 * k)) + digit_of (slice_index l (2 * k + 1))

byte-within : (l : List ℕ) (k : ℕ) → k < bytes l → byte_of l k ≡ pair l k
unfolding byte_of
byte-within l k inside = grind (arith, nat_tests)

byte-past : (l : List ℕ) (k : ℕ) → bytes l ≤ k → byte_of l k ≡ 0
unfolding byte_of
byte-past l k past = grind (arith, nat_tests)

-- each place in a line is one of a pair's two
each_place : (P : ℕ → Type 0) (n j : ℕ) → ((k : ℕ) → k < n → P (2 * k)) → ((k : ℕ) → k < n → P (2 * k + 1)) → j < 2 * n → P j
each_place P n j even odd inside = by (dec_lt (j % 2) 1)
  where
    by : Dec (j % 2 < 1) → P j
    by (yes h) = let e : j ≡ 2 * (j / 2) = omega arith in rw e (even (j / 2) (omega arith))
    by (no h) = let e : j ≡ 2 * (j / 2) + 1 = omega arith in rw e (odd (j / 2) (omega arith))

module _ (bs : List ℕ) (are : AreBytes bs) where
  small : (k : ℕ) → k < length bs → get_or bs k 0 < 256
  small k inside = All-get_or IsByte bs k 0 inside are

  high_digit : (k : ℕ) → k < length bs → digit_of (get_or (spelled bs) (2 * k) 0) ≡ get_or bs k 0 / 16
  high_digit k inside = ap digit_of (high-at bs k inside) ∙ digit-character _ (omega (arith, small k inside))

  low_digit : (k : ℕ) → k < length bs → digit_of (get_or (spelled bs) (2 * k + 1) 0) ≡ get_or bs k 0 % 16
  low_digit k inside = ap digit_of (low-at bs k inside) ∙ digit-character _ (omega arith)

  pub bytes-spelled : bytes (spelled bs) ≡ length bs
  bytes-spelled = omega (arith, length-spelled bs)

  -- the bytes of the line are these
  pub byte-spelled : byte_of (spelled bs) ≡ (λ k. get_or bs k 0)
  byte-spelled = fun_ext (λ k. by k (dec_lt k (length bs)))
    where
      by : (k : ℕ) → Dec (k < length bs) → byte_of (spelled bs) k ≡ get_or bs k 0
      by k (yes inside) =
          rw (byte-within (spelled bs) k (omega (arith, bytes-spelled)), high_digit k inside, low_digit k inside) (omega arith)
      by k (no past) = byte-past (spelled bs) k (omega (arith, bytes-spelled)) ∙ sym (get_or_past bs k 0 (omega arith))

  pub digits-spelled : All IsDigit (spelled bs)
  digits-spelled = All-from_get_or IsDigit (spelled bs) 0 (λ j inside.
      each_place (λ j. IsDigit (get_or (spelled bs) j 0)) (length bs) j
      (λ k h. rw (high_digit k h) (omega (arith, small k h)))
      (λ k h. rw (low_digit k h) (omega arith))
      (omega (arith, length-spelled bs)))

  -- some bytes have a sound line where they are not too many: those of an expression may be more
  pub line-spelled : 0 < length bs → 2 * length bs ≤ line_length (spelled bs) → LineOk (spelled bs)
  line-spelled some short = record {
    some = omega (arith, length-spelled bs);
    short = omega (arith, length-spelled bs);
    even = omega (arith, length-spelled bs);
    digits = digits-spelled;
  }

-- the bytes of a sound line
module _ (l : List ℕ) (ok : LineOk l) where
  digit : (j : ℕ) → j < length l → digit_of (slice_index l j) < 16
  digit j inside = All-get_or IsDigit l j 0 inside ok.digits

  high : (k : ℕ) → k < bytes l → digit_of (slice_index l (2 * k)) < 16
  high k inside = digit (2 * k) (omega (arith, ok.even))

  low : (k : ℕ) → k < bytes l → digit_of (slice_index l (2 * k + 1)) < 16
  low k inside = digit (2 * k + 1) (omega (arith, ok.even))

  pub byte-small : (k : ℕ) → byte_of l k < 256
  byte-small k = by (dec_lt k (bytes l))
    where
      by : Dec (k < bytes l) → byte_of l k < 256
      by (yes inside) = omega (arith, byte-within l k inside, high k inside, low k inside)
      by (no past) = omega (arith, byte-past l k (omega arith))

  -- a sound line is that of its bytes
  pub spelled-bytes : (bs : List ℕ) → length bs ≡ bytes l → ((k : ℕ) → k < bytes l → get_or bs k 0 ≡ byte_of l k) → l ≡ spelled bs
  spelled-bytes bs long same =
      same_number_lists l (spelled bs) (omega (arith, length-spelled bs, ok.even)) (λ j inside.
      each_place (λ j. get_or l j 0 ≡ get_or (spelled bs) j 0) (bytes l) j
      (λ k h.
      let b : get_or bs k 0 ≡ pair l k = same k h ∙ byte-within l k h in
      let d : get_or bs k 0 / 16 ≡ digit_of (slice_index l (2 * k)) = omega (arith, low k h) in
      sym (high-at bs k (omega arith) ∙ ap character d ∙ character-digit _ (high k h)))
      (λ k h.
      let b : get_or bs k 0 ≡ pair l k = same k h ∙ byte-within l k h in
      let d : get_or bs k 0 % 16 ≡ digit_of (slice_index l (2 * k + 1)) = omega (arith, low k h) in
      sym (low-at bs k (omega arith) ∙ ap character d ∙ character-digit _ (low k h)))
      (omega (arith, ok.even)))
