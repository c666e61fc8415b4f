-- The most characters of a line, the marks of one one by one, and numbers of some bytes.
use Rattle.std.specs.Prelude.{ℕ, zero, suc, ◌+◌, ◌*◌, ◌^◌, ◌≤◌, ◌≡◌, Bool, true, false, List, [], ◌∷◌, ◌++◌, if◌then◌else◌, length}
use Rattle.std.proofs.Common.{refl, add-one, length-append, arith}
use Rattle.streams.specs.declared.TheConstants.{LINE}
use Rattle.frames.specs.Digits.{begins_expression, line_length}
use Rattle.frames.specs.Frames.{number_in, marks_of}

pub marks_none : (byte : ℕ → ℕ) → marks_of byte 0 ≡ []
unfolding marks_of
marks_none byte = refl

pub marks_more : (byte : ℕ → ℕ) (k : ℕ) → marks_of byte (k + 1) ≡ marks_of byte k ++ byte (k + 1) ∷ []
unfolding marks_of
marks_more byte k = rw (add-one k) refl

pub marks_long : (byte : ℕ → ℕ) (k : ℕ) → length (marks_of byte k) ≡ k
unfolding marks_of
marks_long byte zero = refl
marks_long byte (suc k) = omega (arith, length-append (marks_of byte k) (byte (suc k) ∷ []), marks_long byte k)

-- a line may have 64 characters however it begins, and none more than the longest
pub may_be_short : (l : List ℕ) → 64 ≤ line_length l
unfolding line_length
may_be_short l = by (begins_expression l)
  where
    by : (b : Bool) → 64 ≤ (if b then 130 else 64)
    by true = omega arith
    by false = omega arith

pub no_longer : (l : List ℕ) → line_length l ≤ LINE
unfolding line_length
no_longer l = by (begins_expression l)
  where
    by : (b : Bool) → (if b then 130 else 64) ≤ LINE
    by true = omega arith
    by false = omega arith

-- the number in two bytes, and that in four, by two and two
pub number_two : (byte : ℕ → ℕ) (k : ℕ) → number_in 2 byte k ≡ 2 ^ 8 * byte k + byte (k + 1)
unfolding number_in
number_two byte k = let e : k + 0 ≡ k = omega arith in rw e (omega arith)

pub number_four : (byte : ℕ → ℕ) (k : ℕ) → number_in 4 byte k ≡ 2 ^ 16 * number_in 2 byte k + number_in 2 byte (k + 2)
unfolding number_in
number_four byte k =
    let e : k + 2 + 0 ≡ k + 2 = omega arith in
    let d : k + 2 + 1 ≡ k + 3 = omega arith in
    rw (e, d) (omega arith)
