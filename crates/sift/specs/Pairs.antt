-- The pairs of individuals that role facts join, each with a number.
use Rattle.std.specs.Prelude.{ℕ, ◌+◌, ◌*◌, ◌/◌, ◌<◌, ◌≤◌, List, length, min, max}
use Rattle.std.specs.List.{Contains}
use Rattle.std.specs.List.Sorted.{IsStrictlyIncreasing}
use Rattle.kinds.specs.Kinds.{most_roles, most_individuals}
use Rattle.meaning.specs.Lent.{field, role_fact_width, most_role_facts}
use Rattle.tables.specs.Every.{EachRecord}
use Rattle.tables.specs.Records.{read_role_fact}
use Rattle.tables.specs.declared.records.RoleFact.{RoleFact}

-- so many numbers are kept for the pairs with one lesser individual
abbrev pub pair_base : ℕ
pair_base = most_individuals + 1

-- the number of a pair, whichever of the two comes first
abbrev pub pair_number : ℕ → ℕ → ℕ
pair_number a b = pair_base * min a b + max a b

-- the numbers of a role fact have rows
pub record HasRows (f : RoleFact) : Type 0 where
  pub role : f.role.0 < most_roles
  pub first : f.first.0 < most_individuals
  pub second : f.second.0 < most_individuals

-- and so it is of each role fact of a table
abbrev pub HaveRows : List ℕ → Type 0
HaveRows t = EachRecord role_fact_width read_role_fact t HasRows

-- the pair of role fact k
abbrev pub pair_at : List ℕ → ℕ → ℕ
pair_at t k = pair_number (field role_fact_width t 1 k) (field role_fact_width t 2 k)

-- the pairs of all role facts of a table, in order
pub record ArePairs (facts pairs : List ℕ) : Type 0 where
  pub few : length pairs ≤ most_role_facts
  pub rises : IsStrictlyIncreasing pairs
  pub has : (k : ℕ) → k < length facts / role_fact_width → Contains pairs (pair_at facts k)
