-- The bytes of a line of characters, read back.
use Rattle.std.specs.Prelude.{ℕ, zero, suc, ◌+◌, ◌*◌, ◌/◌, ◌%◌, ◌<◌, ◌≡◌, refl, Bool, true, false, nat_lt, List, [], ◌∷◌, ◌++◌, if◌then◌else◌, length, slice_index}
use Rattle.std.specs.List.{flat_map}
use Rattle.std.proofs.Common.{sym, ap, ◌∙◌, append-nil, arith}
use Rattle.std.proofs.lemmas.Bool.Decides.{nat_tests}
use Rattle.frames.specs.Digits.{digit_of, byte_of}
use Rattle.frames.specs.Text.{character, characters, text}

-- a digit is read back from its character
digit-back : (d : ℕ) → d < 16 → digit_of (character d) ≡ d
unfolding digit_of
digit-back d h = by (nat_lt d 10) refl
  where
    by : (b : Bool) → nat_lt d 10 ≡ b → digit_of (if b then 48 + d else 55 + d) ≡ d
    by true e = grind (arith, nat_tests)
    by false e = grind (arith, nat_tests)

-- and a byte from its two
byte-back : (x : ℕ) → x < 256 → 16 * digit_of (character (x / 16)) + digit_of (character (x % 16)) ≡ x
byte-back x h = omega (arith, digit-back (x / 16) (omega arith), digit-back (x % 16) (omega arith))

-- the two characters of byte k of a line of bytes,
characters-at : (bytes end : List ℕ) (k : ℕ) → k < length bytes
    → (slice_index (flat_map characters bytes ++ end) (2 * k) ≡ character (slice_index bytes k / 16))
    × (slice_index (flat_map characters bytes ++ end) (2 * k + 1) ≡ character (slice_index bytes k % 16))
characters-at [] end k h = absurd (omega arith)
characters-at (b ∷ bytes) end zero h = (refl, refl)
characters-at (b ∷ bytes) end (suc k) h =
    let high : 2 * suc k ≡ suc (suc (2 * k)) = omega arith in
    let low : 2 * suc k + 1 ≡ suc (suc (2 * k + 1)) = omega arith in
    rw (low, high) (characters-at bytes end k (omega arith))

characters-long : (bytes end : List ℕ) → length (flat_map characters bytes ++ end) ≡ 2 * length bytes + length end
characters-long [] end = omega arith
characters-long (b ∷ bytes) end = omega (arith, characters-long bytes end)

-- so that it is read back, whatever stands behind them
byte-before : (bytes end : List ℕ) (k : ℕ) → k < length bytes → slice_index bytes k < 256
    → byte_of (flat_map characters bytes ++ end) k ≡ slice_index bytes k
unfolding byte_of
byte-before bytes end k h b =
    let inside : k < length (flat_map characters bytes ++ end) / 2 = omega (arith, characters-long bytes end) in
    let two = characters-at bytes end k h in
    let e : nat_lt k (length (flat_map characters bytes ++ end) / 2) ≡ true = grind (arith, nat_tests) in
    rw (e, two.0, two.1) (byte-back (slice_index bytes k) b)

pub byte-at : (bytes : List ℕ) (k : ℕ) → k < length bytes → slice_index bytes k < 256 → byte_of (text bytes) k ≡ slice_index bytes k
unfolding text
byte-at bytes k h b = byte-before bytes (0x0A ∷ []) k h b

-- without its end too
pub byte-within : (bytes : List ℕ) (k : ℕ) → k < length bytes → slice_index bytes k < 256
    → byte_of (flat_map characters bytes) k ≡ slice_index bytes k
byte-within bytes k h b =
    ap (λ (l : List ℕ). byte_of l k) (sym (append-nil (flat_map characters bytes))) ∙ byte-before bytes [] k h b
