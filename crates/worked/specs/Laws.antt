-- The laws of the cases worked on paper.
use Rattle.std.specs.Prelude.{◌≡◌, List, ℕ, length}
use Rattle.laws.specs.Member.{◌∈◌}
use Rattle.meaning.specs.Layout.{area_length}
use Rattle.worked.specs.Cases.{Case, cases, Says}
use Rattle.worked.specs.Clashing.{SalvageCase, salvage_cases, Salvaged}

-- the cases worked on paper: whatever two areas of the right length hold, each row's call has the
-- outcome that the row says: the answer has the row's number and count, and in the first area stand
-- as many marks as the row says
abbrev pub CasesHold : Type 0
CasesHold = (area spare : List ℕ) → length area ≡ area_length → length spare ≡ area_length
    → (k : Case) → k ∈ cases → Says area spare k

-- and facts that clash: each row's marks are the salvage of its facts
abbrev pub SalvagesHold : Type 0
SalvagesHold = (k : SalvageCase) → k ∈ salvage_cases → Salvaged k
