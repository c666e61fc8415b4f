-- Lines as they are written (docs/RULES.md, section 8): two characters a byte, capital letters, and
-- 0A at the end.
use Rattle.std.specs.Prelude.{ℕ, ◌+◌, ◌/◌, ◌%◌, List, [], ◌∷◌, ◌++◌, nat_lt, if◌then◌else◌}
use Rattle.std.specs.List.{flat_map}

-- the character of a digit: 0–9, then A–F
abbrev pub character : ℕ → ℕ
character digit = if nat_lt digit 10 then 48 + digit else 55 + digit

-- a byte, high digit first
abbrev pub characters : ℕ → List ℕ
characters byte = character (byte / 16) ∷ character (byte % 16) ∷ []

-- a line of bytes
unfoldable pub text : List ℕ → List ℕ
text bytes = flat_map characters bytes ++ 0x0A ∷ []

-- the most bytes of a line
abbrev pub most_bytes : ℕ
most_bytes = 65
