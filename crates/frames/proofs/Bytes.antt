-- The bytes of a line that a reader works out: of digits they are those that the digits make.
use Rattle.std.specs.Prelude.{ℕ, ◌+◌, ◌*◌, ◌%◌, ◌<◌, ◌≤◌, ◌≡◌, List, Bool, true, false, nat_lt, if◌then◌else◌, take, slice_index}
use Rattle.std.proofs.Common.{refl, ap, ◌∙◌, arith}
use Rattle.std.proofs.Math.Path.{fun_ext}
use Rattle.std.proofs.lemmas.List.Elements.{All-get_or}
use Rattle.std.proofs.lemmas.List.{get_or-take}
use Rattle.std.proofs.lemmas.Bool.Decides.{nat_tests}
use Rattle.frames.specs.Digits.{digit_of, bytes, byte_of, LineOk}
use Rattle.frames.specs.Pairs.{Digits, HoldsPairs, worth, byte_read, byte_by, high_worth, low_worth}
use Rattle.frames.proofs.Worth.{worth_digit}

-- a byte within the line is made of its two characters
pub byte_within : (l : List ℕ) (k : ℕ) → k < bytes l
    → byte_read l k ≡ byte_by (high_worth l k) (low_worth l k)
unfolding byte_read
byte_within l k inside = grind (arith, nat_tests)

-- and past its end it is 0
pub byte_past : (l : List ℕ) (k : ℕ) → bytes l ≤ k → byte_read l k ≡ 0
unfolding byte_read
byte_past l k past = grind (arith, nat_tests)

same_byte : (l : List ℕ) → Digits l (2 * bytes l) → (k : ℕ) → byte_read l k ≡ byte_of l k
unfolding byte_read byte_of
same_byte l d k = by (nat_lt k (bytes l)) refl
  where
    high : ℕ
    high = digit_of (slice_index l (2 * k))

    low : ℕ
    low = digit_of (slice_index l (2 * k + 1))

    first : ℕ
    first = worth (slice_index l (2 * k))

    second : ℕ
    second = worth (slice_index l (2 * k + 1))

    by : (b : Bool) → nat_lt k (bytes l) ≡ b
        → (if b then (16 * first % 256 + second) % 256 else 0) ≡ (if b then 16 * high + low else 0)
    by true e =
        let inside : k < bytes l = grind (arith, nat_tests) in
        let h = d (2 * k) (omega arith) in
        let l = d (2 * k + 1) (omega arith) in
        omega (arith, h, l, worth_digit _ h, worth_digit _ l)
    by false e = refl

-- so it is of all bytes of a sound line
pub sound_bytes : (l : List ℕ) → LineOk l → byte_read l ≡ byte_of l
sound_bytes l ok = fun_ext (same_byte l (λ j h. All-get_or (λ c. digit_of c < 16) l j 0 (omega arith) ok.digits))

-- the pairs at the front of some characters are those of a line there
pub front_pairs : (m n : ℕ) (held line bytes common : List ℕ) → n ≤ m → line ≡ take (2 * n) held → HoldsPairs m held bytes common
    → HoldsPairs n line bytes common
front_pairs m n held line bytes common few e p =
    let high : (k : ℕ) → k < n → slice_index line (2 * k) ≡ slice_index held (2 * k) =
    λ k h. ap (λ (l : List ℕ). slice_index l (2 * k)) e ∙ get_or-take (2 * n) held (2 * k) 0 (omega arith) in
    let low : (k : ℕ) → k < n → slice_index line (2 * k + 1) ≡ slice_index held (2 * k + 1) =
    λ k h. ap (λ (l : List ℕ). slice_index l (2 * k + 1)) e ∙ get_or-take (2 * n) held (2 * k + 1) 0 (omega arith) in
    record {
      makes = λ k h. rw (high k h, low k h) (p.makes k (omega arith));
      shares = λ k h. rw (high k h, low k h) (p.shares k (omega arith));
    }
