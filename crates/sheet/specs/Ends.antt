-- How rounds end against an allowance.
use Rattle.std.specs.Prelude.{ℕ, ◌≤◌, ◌<◌}
use Rattle.theory.specs.Sheet.{Unchanged}
use Rattle.theory.specs.Sheet as sheet
use Rattle.rules.specs.declared.rows.Rows.{Rows}
use Rattle.rules.specs.Rows.{kind_of}
use Rattle.sheet.specs.declared.allowed.Ran.{Ran}
use Rattle.sheet.specs.declared.allowed.Ran.TheVariants.{Needed, Spent}

-- the rounds needed, where the allowance has so many; and the allowance is spent where it has not
pub data Ended (rows : Rows) (allowance : ℕ) : Ran → Type 0 where
  needed : {n : ℕ} → sheet.Needed (kind_of rows) n → n ≤ allowance → Ended rows allowance (Needed n)
  spent : ((m : ℕ) → m ≤ allowance → Unchanged (kind_of rows) m → ⊥) → Ended rows allowance Spent

-- n rounds are allowed, and each of them changed the sheet
pub record Going (rows : Rows) (allowance n : ℕ) : Type 0 where
  pub within : n ≤ allowance
  pub changing : (m : ℕ) → m < n → Unchanged (kind_of rows) m → ⊥

-- the smaller of the two
abbrev pub rounds_made : ℕ → Ran → ℕ
rounds_made allowance (Needed n) = n
rounds_made allowance Spent = allowance
