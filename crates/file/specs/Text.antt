-- The lines that are written (docs/RULES.md, sections 8 and 13).
use Rattle.std.specs.Prelude.{ℕ, ◌^◌, ◌<◌, List, [], ◌∷◌, ◌++◌, nat_le, if◌then◌else◌}
use Rattle.std.specs.Int.{bytes_high_first}
use Rattle.frames.specs.Text.{text}
use Rattle.kinds.specs.declared.Counts.{Counts}
use Rattle.kinds.specs.declared.Answer.{Answer}
use Rattle.kinds.specs.Answer.{answer_number, answer_count}
use Rattle.kinds.specs.declared.Ask.{Ask}
use Rattle.kinds.specs.declared.Ask.TheVariants.{Pair, From}
use Rattle.file.specs.declared.text.Width.{Width}
use Rattle.file.specs.declared.text.Width.TheVariants.{Two, Four}

-- the most states that a file declares whose counts have two bytes
abbrev pub few_states : ℕ
few_states = 16

-- how many bytes a count has, and the number of a round, where line 1 declares so much
unfoldable pub count_width : Counts → ℕ
count_width c = if nat_le c.states few_states then 2 else 4

-- how many bytes a width says
abbrev pub bytes_of : Width → ℕ
bytes_of Two = 2
bytes_of Four = 4

-- 8A, round, marks that it added, each as wide as a count
unfoldable pub round_line : ℕ → ℕ → ℕ → List ℕ
round_line width round marks =
    text (0x8A ∷ bytes_high_first width round ++ bytes_high_first width marks)

-- 8B, first, second, answer, count; and of one named end 8E, individual, answer, count
unfoldable pub answer_line : ℕ → Ask → Answer → List ℕ
answer_line width (Pair a b) r =
    text (0x8B ∷ a.0 ∷ b.0 ∷ answer_number r ∷ bytes_high_first width (answer_count r))
answer_line width (From a) r =
    text (0x8E ∷ a.0 ∷ answer_number r ∷ bytes_high_first width (answer_count r))

-- 92, the number of the line of a fact that is dropped, in two bytes
unfoldable pub dropped_line : ℕ → List ℕ
dropped_line line = text (0x92 ∷ bytes_high_first 2 line)

-- the lines for facts that are dropped, by the numbers of their lines
unfoldable pub dropped_text : List ℕ → List ℕ
dropped_text [] = []
dropped_text (line ∷ dropped) = dropped_line line ++ dropped_text dropped

-- an ask's individuals go into a byte each
abbrev pub IsInBytes : Ask → Type 0
IsInBytes (Pair a b) = (a.0 < 2 ^ 8) × (b.0 < 2 ^ 8)
IsInBytes (From a) = a.0 < 2 ^ 8
