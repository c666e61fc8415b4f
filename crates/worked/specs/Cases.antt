-- Worked on paper: the cases of docs/PAPER.md, in one table, and what a row says of its outcome.
use Rattle.std.specs.Prelude.{◌≡◌, List, [], ◌∷◌, ◌++◌, ℕ}
use Rattle.kinds.specs.declared.Counts.{Counts}
use Rattle.kinds.specs.declared.Answer.{Answer}
use Rattle.kinds.specs.declared.Ask.{Ask}
use Rattle.kinds.specs.declared.Ask.TheVariants.{Pair, From}
use Rattle.kinds.specs.declared.Answer.TheVariants.{No, Yes, Contradiction, AllowanceSpent, BadCount, BadTable, BadNumber, BadAsk}
use Rattle.kinds.specs.Kinds.{individual, state}
use Rattle.kinds.specs.Answer.{answer_number, answer_count}
use Rattle.meaning.specs.Lent.{Tables, Call, collection}
use Rattle.meaning.specs.Collection.{Collection}
use Rattle.meaning.specs.Lite.{lite}
use Rattle.meaning.specs.Layout.{Standing}
use Rattle.theory.specs.Marks.{RoundCounts}
use Rattle.meaning.specs.Outcome.{Outcome}

-- a row: a whole collection as it is lent, an ask and an allowance; the number and count returned,
-- the marks that then stand, and how many each round added
pub record Case : Type 0 where
  pub counts : Counts
  pub tables : Tables
  pub ask : Ask
  pub allowance : ℕ
  pub number : ℕ
  pub count : ℕ
  pub marks : ℕ
  pub added : List ℕ

abbrev pub declares : ℕ → ℕ → ℕ → ℕ → ℕ → Counts
declares names roles individuals states start = record {
  names = names;
  roles = roles;
  individuals = individuals;
  states = states;
  start = state start;
}

-- rules, exclusions, role rules, role exclusions, concept facts, role facts, steps and finals, in
-- the order of docs/RULES.md (section 3)
abbrev pub holding : List ℕ → List ℕ → List ℕ → List ℕ → List ℕ → List ℕ → List ℕ → List ℕ → Tables
holding cr ce rr re cf rf st fi = record {
  concept-rules = cr;
  concept-exclusions = ce;
  role-rules = rr;
  role-exclusions = re;
  concept-facts = cf;
  role-facts = rf;
  steps = st;
  finals = fi;
}

-- base collection B: Owner ≤ ∃signs, ∃(signs backward) ≤ Deed; signs, test Deed, signs backward,
-- from 0 to 3
abbrev pub base_rules : List ℕ
base_rules = 0 ∷ 64 ∷ 65 ∷ 1 ∷ []

abbrev pub base_steps : List ℕ
base_steps = 0 ∷ 0 ∷ 0 ∷ 1 ∷ 1 ∷ 1 ∷ 1 ∷ 2 ∷ 0 ∷ 2 ∷ 1 ∷ 3 ∷ []

-- the question of B in the last of 17 states: from 0 to 14
abbrev last_steps : List ℕ
last_steps = 0 ∷ 0 ∷ 0 ∷ 16 ∷ 1 ∷ 16 ∷ 1 ∷ 15 ∷ 0 ∷ 15 ∷ 1 ∷ 14 ∷ []

-- the test of Owner from 31 to 16
abbrev last_test : List ℕ
last_test = 1 ∷ 31 ∷ 0 ∷ 16 ∷ []

-- Owner(0), by no deed that is noted
abbrev pub owner : List ℕ
owner = 0 ∷ 0 ∷ 0 ∷ []

-- Owner ≤ ∃signs, ∃(signs backward) ≤ ∃holds, ∃(holds backward) ≤ ∃signs; signs, holds, signs, from 0
-- to 3
abbrev deep_rules : List ℕ
deep_rules = 0 ∷ 64 ∷ 65 ∷ 66 ∷ 67 ∷ 64 ∷ []

abbrev deep_steps : List ℕ
deep_steps = 0 ∷ 0 ∷ 0 ∷ 1 ∷ 0 ∷ 1 ∷ 2 ∷ 2 ∷ 0 ∷ 2 ∷ 0 ∷ 3 ∷ []

-- signs, then holds backward
abbrev signs_holds : List ℕ
signs_holds = 0 ∷ 0 ∷ 0 ∷ 1 ∷ 0 ∷ 1 ∷ 3 ∷ 2 ∷ []

-- holds(0, 0), and signs(0, 1)
abbrev pub self_held : List ℕ
self_held = 1 ∷ 0 ∷ 0 ∷ 0 ∷ []

abbrev pub signed_to : List ℕ
signed_to = 0 ∷ 0 ∷ 1 ∷ 0 ∷ []

-- holds, then signs
abbrev holds_signs : List ℕ
holds_signs = 0 ∷ 0 ∷ 2 ∷ 1 ∷ 0 ∷ 1 ∷ 0 ∷ 2 ∷ []

-- the ask of a pair
abbrev pair : ℕ → ℕ → Ask
pair first second = Pair (individual first) (individual second)

-- and of one individual
abbrev from : ℕ → Ask
from first = From (individual first)

-- counts, tables; ask, allowance; number, count, marks, and those of each round
abbrev row : Counts → Tables → Ask → ℕ → ℕ → ℕ → ℕ → List ℕ → Case
row counts tables ask allowance number count marks added = record {
  counts = counts;
  tables = tables;
  ask = ask;
  allowance = allowance;
  number = number;
  count = count;
  marks = marks;
  added = added;
}

unfoldable pub cases : List Case
cases =
    -- 1. B, (0, 0): yes, 2 rounds, 28 marks
    row (declares 2 2 2 4 0)
    (holding base_rules [] [] [] owner [] base_steps (3 ∷ []))
    (pair 0 0) 64 1 2 28 (2 ∷ 2 ∷ [])
    -- 2. B, (0, 1): no
    ∷ row (declares 2 2 2 4 0)
    (holding base_rules [] [] [] owner [] base_steps (3 ∷ []))
    (pair 0 1) 64 0 2 28 (2 ∷ 2 ∷ [])
    -- 3. B with allowance 1: number 3, count 1
    ∷ row (declares 2 2 2 4 0)
    (holding base_rules [] [] [] owner [] base_steps (3 ∷ [])) (pair 0 0) 1 3 1 26 (2 ∷ [])
    -- 4. B plus Deed excludes ∃(signs backward): contradiction, on an unnamed deed
    ∷ row (declares 2 2 2 4 0)
    (holding base_rules (1 ∷ 65 ∷ []) [] [] owner [] base_steps (3 ∷ []))
    (pair 0 0) 64 2 0 0 []
    -- 5. case 4 without Owner(0): no
    ∷ row (declares 2 2 2 4 0)
    (holding base_rules (1 ∷ 65 ∷ []) [] [] [] [] base_steps (3 ∷ []))
    (pair 0 0) 64 0 2 28 (2 ∷ 2 ∷ [])
    -- 6. B plus signs ≤ holds and signs excludes holds: contradiction with no role fact typed
    ∷ row (declares 2 2 2 4 0)
    (holding base_rules [] (0 ∷ 2 ∷ []) (0 ∷ 2 ∷ []) owner [] base_steps (3 ∷ []))
    (pair 0 0) 64 2 0 0 []
    -- 7. holds(0, 1), holds(1, 0), holds excludes holds backward: contradiction
    ∷ row (declares 2 2 2 4 0)
    (holding [] [] [] (2 ∷ 3 ∷ []) [] (1 ∷ 0 ∷ 1 ∷ 0 ∷ 1 ∷ 1 ∷ 0 ∷ 0 ∷ []) base_steps (3 ∷ []))
    (pair 0 0) 64 2 0 0 []
    -- 8. start state final, no steps: (0, 0) yes, (0, 1) no, 0 rounds
    ∷ row (declares 2 2 2 1 0) (holding [] [] [] [] [] [] [] (0 ∷ [])) (pair 0 0) 64 1 0 6 []
    ∷ row (declares 2 2 2 1 0) (holding [] [] [] [] [] [] [] (0 ∷ [])) (pair 0 1) 64 0 0 6 []
    -- 9. Owner ≤ ∃signs, ∃(signs backward) ≤ ∃signs, Owner(0); signs twice, then signs backward
    -- twice: yes, 2 rounds
    ∷ row (declares 2 2 2 5 0)
    (holding (0 ∷ 64 ∷ 65 ∷ 64 ∷ []) [] [] [] owner []
    (0 ∷ 0 ∷ 0 ∷ 1 ∷ 0 ∷ 1 ∷ 0 ∷ 2 ∷ 0 ∷ 2 ∷ 1 ∷ 3 ∷ 0 ∷ 3 ∷ 1 ∷ 4 ∷ []) (4 ∷ []))
    (pair 0 0) 64 1 2 36 (3 ∷ 3 ∷ [])
    -- 10. Owner ≤ ∃signs, Owner ≤ ∃holds, Owner(0); signs then holds backward: no
    ∷ row (declares 2 2 2 3 0)
    (holding (0 ∷ 64 ∷ 0 ∷ 66 ∷ []) [] [] [] owner [] signs_holds (2 ∷ []))
    (pair 0 0) 64 0 0 18 []
    -- 11. case 10 plus a third role, Owner ≤ ∃third, third ≤ signs, third ≤ holds: yes
    ∷ row (declares 2 3 2 3 0)
    (holding (0 ∷ 64 ∷ 0 ∷ 66 ∷ 0 ∷ 68 ∷ []) [] (4 ∷ 0 ∷ 4 ∷ 2 ∷ []) [] owner []
    signs_holds (2 ∷ []))
    (pair 0 0) 64 1 1 26 (2 ∷ [])
    -- 13. holds(0, 0), signs(0, 1); holds then signs: (0, 1) yes, along the edge from 0 to itself
    ∷ row (declares 2 2 2 3 0)
    (holding [] [] [] [] [] (self_held ++ signed_to) holds_signs (2 ∷ [])) (pair 0 1) 64 1 0 18 []
    -- 14. case 13, (0, 0): no
    ∷ row (declares 2 2 2 3 0)
    (holding [] [] [] [] [] (self_held ++ signed_to) holds_signs (2 ∷ [])) (pair 0 0) 64 0 0 18 []
    -- 15. case 13 plus holds excludes holds backward: contradiction
    ∷ row (declares 2 2 2 3 0)
    (holding [] [] [] (2 ∷ 3 ∷ []) [] (self_held ++ signed_to) holds_signs (2 ∷ []))
    (pair 0 1) 64 2 0 0 []
    -- 16. case 3 plus holds(0, 0): number 3, count 1
    ∷ row (declares 2 2 2 4 0)
    (holding base_rules [] [] [] owner self_held base_steps (3 ∷ []))
    (pair 0 0) 1 3 1 26 (2 ∷ [])
    -- 17. from 0 alone: the path ends on an unnamed element three deep: yes, 0 rounds, 24 marks; to 0
    -- itself: no; from 1: no
    ∷ row (declares 2 2 2 4 0)
    (holding deep_rules [] [] [] owner [] deep_steps (3 ∷ [])) (from 0) 64 1 0 24 []
    ∷ row (declares 2 2 2 4 0)
    (holding deep_rules [] [] [] owner [] deep_steps (3 ∷ [])) (pair 0 0) 64 0 0 24 []
    ∷ row (declares 2 2 2 4 0)
    (holding deep_rules [] [] [] owner [] deep_steps (3 ∷ [])) (from 1) 64 0 0 24 []
    -- 18. B with state 2 final, from 0: yes, on a deed that nobody typed, after its test
    ∷ row (declares 2 2 2 4 0)
    (holding base_rules [] [] [] owner [] base_steps (2 ∷ [])) (from 0) 64 1 2 28 (2 ∷ 2 ∷ [])
    -- 19. case 17 plus ∃(holds backward) excludes ∃signs: contradiction, two deep
    ∷ row (declares 2 2 2 4 0)
    (holding deep_rules (67 ∷ 64 ∷ []) [] [] owner [] deep_steps (3 ∷ []))
    (from 1) 64 2 0 0 []
    -- 20. case 18 with allowance 1: number 3, count 1
    ∷ row (declares 2 2 2 4 0)
    (holding base_rules [] [] [] owner [] base_steps (2 ∷ [])) (from 0) 1 3 1 26 (2 ∷ [])
    -- 21. case 8 from 1, of whom nothing is typed: yes, by the empty path
    ∷ row (declares 2 2 2 1 0) (holding [] [] [] [] [] [] [] (0 ∷ [])) (from 1) 64 1 0 6 []
    -- 22. B with 17 states, its question in the last of them: (0, 0) yes, (0, 1) no
    ∷ row (declares 2 2 2 17 0)
    (holding base_rules [] [] [] owner [] last_steps (14 ∷ []))
    (pair 0 0) 64 1 2 106 (2 ∷ 2 ∷ [])
    ∷ row (declares 2 2 2 17 0)
    (holding base_rules [] [] [] owner [] last_steps (14 ∷ []))
    (pair 0 1) 64 0 2 106 (2 ∷ 2 ∷ [])
    -- 23. case 22 with allowance 1: number 3, count 1
    ∷ row (declares 2 2 2 17 0)
    (holding base_rules [] [] [] owner [] last_steps (14 ∷ []))
    (pair 0 0) 1 3 1 104 (2 ∷ [])
    -- 24. 32 states from 31 on, Owner(0), a test from 31 to 16: (0, 0) yes, (1, 1) no
    ∷ row (declares 1 0 2 32 31)
    (holding [] [] [] [] owner [] last_test (16 ∷ [])) (pair 0 0) 64 1 1 33 (1 ∷ [])
    ∷ row (declares 1 0 2 32 31)
    (holding [] [] [] [] owner [] last_test (16 ∷ [])) (pair 1 1) 64 0 1 33 (1 ∷ [])
    -- 25. case 24 with allowance 0: number 3, count 0
    ∷ row (declares 1 0 2 32 31)
    (holding [] [] [] [] owner [] last_test (16 ∷ [])) (pair 0 0) 0 3 0 32 []
    ∷ []

-- after 0, 1 and 3 each of the rounds needed or allowed added the number of marks that stands here
-- for it; after all else none is told
abbrev pub RoundsAdd : Collection → Answer → List ℕ → Type 0
RoundsAdd 𝓒 (No rounds) added = RoundCounts (lite 𝓒) rounds added
RoundsAdd 𝓒 (Yes rounds) added = RoundCounts (lite 𝓒) rounds added
RoundsAdd 𝓒 (AllowanceSpent allowance) added = RoundCounts (lite 𝓒) allowance added
RoundsAdd 𝓒 other added = added ≡ []

module _ (area spare : List ℕ) where
  -- the call of a row, with two areas lent
  abbrev pub lend : Case → Call
  lend k = record {
    counts = k.counts;
    tables = k.tables;
    ask = k.ask;
    allowance = k.allowance;
    area = area;
    spare = spare;
  }

  -- after 0, 1 and 3 as many marks stand in the first area as are given; after all else it is as it
  -- was lent
  abbrev pub MarksStand : Answer → List ℕ → ℕ → Type 0
  MarksStand (No rounds) x m = Standing x m
  MarksStand (Yes rounds) x m = Standing x m
  MarksStand (AllowanceSpent allowance) x m = Standing x m
  MarksStand Contradiction x m = x ≡ area
  MarksStand BadCount x m = x ≡ area
  MarksStand BadTable x m = x ≡ area
  MarksStand BadNumber x m = x ≡ area
  MarksStand BadAsk x m = x ≡ area

  -- what a row says of its outcome
  pub record Says (k : Case) : Type 0 where
    pub answer : Answer
    pub area-after : List ℕ
    pub spare-after : List ℕ
    pub outcome : Outcome (lend k) answer area-after spare-after
    pub number : answer_number answer ≡ k.number
    pub count : answer_count answer ≡ k.count
    pub marks : MarksStand answer area-after k.marks
    pub added : RoundsAdd (collection k.counts k.tables) answer k.added
