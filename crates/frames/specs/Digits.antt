-- The characters of a line (docs/RULES.md, section 7, number 9): what each is worth as a digit, the
-- bytes that pairs of them make, and which lines are sound.
use Rattle.std.specs.Prelude.{ℕ, ◌+◌, ◌*◌, ◌-◌, ◌<◌, ◌≤◌, ◌%◌, ◌/◌, ◌≡◌, ◌==◌, Bool, List, ◌&&◌, nat_lt, nat_le, if◌then◌else◌, length, All, slice_index}

-- 0–9 and A–F are the digits 0 to 15; any other character is worth 255, which is none
unfoldable pub digit_of : ℕ → ℕ
digit_of c =
    if nat_le 48 c && nat_le c 57 then c - 48
    else (if nat_le 65 c && nat_le c 70 then c - 55 else 255)

-- a line begins with the two characters 0D
abbrev pub begins_expression : List ℕ → Bool
begins_expression l = (slice_index l 0 == 0x30) && (slice_index l 1 == 0x44)

-- the most characters of a line: 130 where it begins so, and else 64
unfoldable pub line_length : List ℕ → ℕ
line_length l = if begins_expression l then 130 else 64

-- not 9: not empty, no more characters than a line may have, an even number of them, and each one
-- of 0–9 and A–F
pub record LineOk (l : List ℕ) : Type 0 where
  pub some : 0 < length l
  pub short : length l ≤ line_length l
  pub even : length l % 2 ≡ 0
  pub digits : All (λ c. digit_of c < 16) l

-- how many bytes a line makes: two characters make one
abbrev pub bytes : List ℕ → ℕ
bytes l = length l / 2

-- byte k of a line, high digit first, and 0 past its end
unfoldable pub byte_of : List ℕ → ℕ → ℕ
byte_of l k =
    if nat_lt k (bytes l)
    then 16 * digit_of (slice_index l (2 * k)) + digit_of (slice_index l (2 * k + 1))
    else 0
