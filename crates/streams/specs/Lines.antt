-- The lines of an input (docs/RULES.md, section 8): each ends at byte 0A, and a last line of one
-- character or more may lack it.
use Rattle.std.specs.Prelude.{◌≡◌, ◌<◌, ℕ, List, [], ◌∷◌, ◌==◌, Option, None, Some, ⊤, length, slice_get, IsSomeAnd, if◌then◌else◌}

-- a character at the front of the first line
abbrev pub longer : ℕ → List (List ℕ) → List (List ℕ)
longer c [] = (c ∷ []) ∷ []
longer c (l ∷ ls) = (c ∷ l) ∷ ls

-- a line ends at byte 0A
unfoldable pub lines : List ℕ → List (List ℕ)
lines [] = []
lines (c ∷ cs) = if c == 0x0A then [] ∷ lines cs else longer c (lines cs)

-- the known bytes begin with this line, and lose it with its end
abbrev pub TakesLine : Option (List ℕ) → Option (List ℕ) → List ℕ → Type 0
TakesLine None new line = ⊤
TakesLine (Some xs) None line = ⊥
TakesLine (Some xs) (Some ys) line = lines xs ≡ line ∷ lines ys

-- the first line of the known bytes has more than n characters
abbrev pub BeginsLonger : Option (List ℕ) → ℕ → Type 0
BeginsLonger None n = ⊤
BeginsLonger (Some xs) n = IsSomeAnd (slice_get (lines xs) 0) (λ line. n < length line)
