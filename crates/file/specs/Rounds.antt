-- What is told of a file's rounds, before its answers (docs/RULES.md, section 8).
use Rattle.std.specs.Prelude.{ℕ, zero, suc, ◌<◌, ◌≡◌, List, [], ◌∷◌, ◌++◌, min}
use Rattle.meaning.specs.Collection.{Collection}
use Rattle.meaning.specs.Model.{Contradiction}
use Rattle.theory.specs.Sheet.{Needed}
use Rattle.meaning.specs.Lite.{lite}
use Rattle.theory.specs.Marks.{RoundCounts}
use Rattle.file.specs.Text.{round_line}

-- the lines of some rounds, each with the number of marks that it added; `before` rounds came before
-- the first of them, and a count has so many bytes
unfoldable pub round_lines : ℕ → ℕ → List ℕ → List ℕ
round_lines width before [] = []
round_lines width before (m ∷ counts) =
    round_line width (suc before) m ++ round_lines width (suc before) counts

-- what tells of a round, and of how many marks first stand in it: of round 0 nothing, and else its
-- line
abbrev pub told_line : ℕ → ℕ → ℕ → List ℕ
told_line width zero marks = []
told_line width (suc before) marks = round_line width (suc before) marks

-- how many marks each round added, of the rounds that are told: of a file without an ask and of a
-- contradiction none, else rounds 1 to the lesser of the rounds needed and the allowance
pub data RoundsTold (𝓒 : Collection) (allowance asks : ℕ) : List ℕ → Type 0 where
  no-ask : asks ≡ 0 → RoundsTold 𝓒 allowance asks []
  contradiction : Contradiction 𝓒 → RoundsTold 𝓒 allowance asks []
  rounds : {n : ℕ} {counts : List ℕ} → 0 < asks → (Contradiction 𝓒 → ⊥)
      → Needed (lite 𝓒) n → RoundCounts (lite 𝓒) (min n allowance) counts
      → RoundsTold 𝓒 allowance asks counts
