-- The outcome of a library call (docs/RULES.md, section 7): for every input its answer, and what both
-- areas hold after it.
use Rattle.std.specs.Prelude.{List, ℕ, ◌≤◌, ◌<◌}
use Rattle.kinds.specs.declared.Answer.{Answer}
use Rattle.kinds.specs.declared.Answer.TheVariants.{No, Yes, Contradiction, AllowanceSpent, BadCount, BadTable, BadNumber, BadAsk}
use Rattle.theory.specs.Sheet.{Mark, Needed}
use Rattle.meaning.specs.Model as model
use Rattle.meaning.specs.Asks.{IsYes}
use Rattle.meaning.specs.Lite.{lite}
use Rattle.meaning.specs.Lent.{Call, collection_of, CountsOk, TablesOk, NumbersOk, AskOk, Sound}
use Rattle.meaning.specs.Layout.{Lays, zeros}

module _ (c : Call) where
  -- the canonical model of what is lent breaks an exclusion
  abbrev pub Breaks : Type 0
  Breaks = model.Contradiction (collection_of c)

  -- the ask is yes in it
  abbrev pub Reached : Type 0
  Reached = IsYes (collection_of c) c.ask

  -- the loop sheet's rounds needed
  abbrev pub RoundsNeeded : ℕ → Type 0
  RoundsNeeded = Needed (lite (collection_of c))

  -- an area that holds the sheet after n rounds
  abbrev pub HoldsSheet : ℕ → List ℕ → Type 0
  HoldsSheet n = Lays (Mark (lite (collection_of c)) n)

  -- the library's order: 4, 5, 6, 8, 2, 3, then 1 or 0; 7 is never given
  pub data Outcome : Answer → List ℕ → List ℕ → Type 0 where
    bad-count : (CountsOk c → ⊥) → Outcome BadCount c.area c.spare
    bad-table : CountsOk c → (TablesOk c → ⊥) → Outcome BadTable c.area c.spare
    bad-number : CountsOk c → TablesOk c → (NumbersOk c → ⊥) → Outcome BadNumber c.area c.spare
    bad-ask : CountsOk c → TablesOk c → NumbersOk c → (AskOk c → ⊥)
        → Outcome BadAsk c.area c.spare
    contradiction : Sound c → Breaks → Outcome Contradiction c.area c.spare
    spent : {n : ℕ} {area : List ℕ} → Sound c → (Breaks → ⊥) → RoundsNeeded n → c.allowance < n
        → HoldsSheet c.allowance area
        → Outcome (AllowanceSpent c.allowance) area zeros
    says-yes : {n : ℕ} {area : List ℕ} → Sound c → (Breaks → ⊥) → RoundsNeeded n → n ≤ c.allowance
        → HoldsSheet n area → Reached
        → Outcome (Yes n) area zeros
    says-no : {n : ℕ} {area : List ℕ} → Sound c → (Breaks → ⊥) → RoundsNeeded n → n ≤ c.allowance
        → HoldsSheet n area → (Reached → ⊥)
        → Outcome (No n) area zeros
