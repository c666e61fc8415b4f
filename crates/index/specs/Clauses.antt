-- The words of a call's clauses.
use Rattle.std.specs.Prelude.{◌≡◌, ◌≤◌, ◌<◌, List, ℕ, length}
use Rattle.kinds.specs.declared.Answer.{Answer}
use Rattle.meaning.specs.Lent.{Call, CountsOk, TablesOk, NumbersOk, AskOk, Sound}
use Rattle.meaning.specs.Outcome.{Outcome, Breaks, Reached, RoundsNeeded}
use Rattle.kinds.specs.declared.Ask.{Ask}
use Rattle.index.specs.declared.lent.Lent.{Lent}
use Rattle.index.specs.Preparation.{prepared_of}
use Rattle.kinds.specs.Asks.{AskDeclared}
use Rattle.index.specs.Asked.{asked}

-- the call that asks it of what is lent, with these areas
abbrev pub called : Lent → Ask → List ℕ → List ℕ → Call
called l ask area spare = asked (prepared_of l area spare) ask area spare

-- test 5 is the first that fails, or 6, or 8
abbrev pub FailsTables : Call → Type 0
FailsTables c = CountsOk c × (¬ TablesOk c)

abbrev pub FailsNumbers : Call → Type 0
FailsNumbers c = CountsOk c × TablesOk c × (¬ NumbersOk c)

abbrev pub FailsAsk : Call → Type 0
FailsAsk c = CountsOk c × TablesOk c × NumbersOk c × (¬ AskOk c)

-- no test refuses the call, and its model breaks an exclusion
abbrev pub IsContradicted : Call → Type 0
IsContradicted c = Sound c × Breaks c

-- no test refuses the call, its model breaks no exclusion, and its loop sheet needs n rounds
pub record Settles (c : Call) (n : ℕ) : Type 0 where
  pub sound : Sound c
  pub sane : Breaks c → ⊥
  pub needed : RoundsNeeded c n

-- n rounds are allowed, and more are needed
abbrev pub RunsOut : Call → ℕ → Type 0
RunsOut c n = (n ≡ c.allowance) × ((m : ℕ) × Settles c m × (n < m))

-- n rounds are needed and allowed, and the ask is yes in the model; or it is not
abbrev pub IsYesAfter : Call → ℕ → Type 0
IsYesAfter c n = Settles c n × (n ≤ c.allowance) × Reached c

abbrev pub IsNoAfter : Call → ℕ → Type 0
IsNoAfter c n = Settles c n × (n ≤ c.allowance) × (¬ Reached c)

-- the same answer, and every byte of both areas
abbrev pub SameOutcome : Answer → List ℕ → List ℕ → Answer → List ℕ → List ℕ → Type 0
SameOutcome r x y q u v = (r ≡ q) × (x ≡ u) × (y ≡ v)

-- the outcome of each ask that is not declared, which leaves both areas as they were
abbrev pub Refuses : Lent → ℕ → ℕ → Answer → Type 0
Refuses l long long' r =
    (ask : Ask) (area spare : List ℕ) → length area ≡ long → length spare ≡ long'
    → (AskDeclared l.collection.counts ask → ⊥)
    → Outcome (called l ask area spare) r area spare
