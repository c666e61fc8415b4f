-- What a line's characters are worth as digits, and the bytes that pairs of them make.
use Rattle.std.specs.Prelude.{ℕ, ◌≡◌, ◌+◌, ◌-◌, ◌*◌, ◌%◌, ◌<◌, ◌&&◌, List, min, nat_lt, nat_le, if◌then◌else◌, length, slice_index, bit_or}
use Rattle.frames.specs.Digits.{digit_of, bytes}

-- what a character is worked out to be worth: a digit its number, any other 16 or more
unfoldable pub worth : ℕ → ℕ
worth c =
    if nat_le 48 c && nat_le c 57 then c - 48
    else (if nat_le 65 c then c - 55 else min 255 (c + 201))

-- the byte of two digits, high digit first; of anything else some byte
abbrev pub byte_by : ℕ → ℕ → ℕ
byte_by high low = (16 * high % 256 + low) % 256

-- the two characters of byte k
abbrev pub high_worth : List ℕ → ℕ → ℕ
high_worth l k = worth (slice_index l (2 * k))

abbrev pub low_worth : List ℕ → ℕ → ℕ
low_worth l k = worth (slice_index l (2 * k + 1))

-- byte k of a line as a reader works it out: of two digits the byte that they make, of other
-- characters some byte, and 0 past the line's end
unfoldable pub byte_read : List ℕ → ℕ → ℕ
byte_read l k = if nat_lt k (bytes l) then byte_by (high_worth l k) (low_worth l k) else 0

-- what the two digits of byte k have in common
abbrev pub common_read : List ℕ → ℕ → ℕ
common_read l k = bit_or (high_worth l k) (low_worth l k)

-- the first n characters are digits
abbrev pub Digits : List ℕ → ℕ → Type 0
Digits l n = (j : ℕ) → j < n → digit_of (slice_index l j) < 16

-- the first n bytes that pairs of some characters make, and what the two digits of each have in common
pub record HoldsPairs (n : ℕ) (l made common : List ℕ) : Type 0 where
  pub makes : (k : ℕ) → k < n → slice_index made k ≡ byte_by (high_worth l k) (low_worth l k)
  pub shares : (k : ℕ) → k < n → slice_index common k ≡ common_read l k

-- the lanes of a vector, by index
pub record HasLanes (n : ℕ) (v : List ℕ) (lane : ℕ → ℕ) : Type 0 where
  pub long : length v ≡ n
  pub lanes : (k : ℕ) → k < n → slice_index v k ≡ lane k
