-- The line that is written of a faulty file (docs/RULES.md, section 8).
use Rattle.std.specs.Prelude.{ℕ, ◌^◌, List, [], ◌∷◌, ◌++◌, nat_lt, if◌then◌else◌}
use Rattle.std.specs.Int.{bytes_high_first}
use Rattle.frames.specs.Text.{text}

-- how many bytes a line's number has: two, and four from 65,536 on
abbrev pub line_width : ℕ → ℕ
line_width line = if nat_lt line (2 ^ 16) then 2 else 4

-- 8F, line number, number
unfoldable pub fault_line : ℕ → ℕ → List ℕ
fault_line line number = text (0x8F ∷ bytes_high_first (line_width line) line ++ number ∷ [])
