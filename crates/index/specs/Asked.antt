-- An ask of what was prepared, as a call; and its answer.
use Rattle.std.specs.Prelude.{◌≡◌, ◌↔◌, Bool, IsTrue, Option, None, IfSome, List, ℕ, ◌+◌, length, slice_index_or}
use Rattle.kinds.specs.declared.Answer.{Answer}
use Rattle.meaning.specs.Asks.{IsYes}
use Rattle.meaning.specs.Lent.{Call}
use Rattle.meaning.specs.Outcome.{Outcome}
use Rattle.kinds.specs.declared.Ask.{Ask}
use Rattle.kinds.specs.Asks.{AskDeclared}
use Rattle.tables.specs.Asks.{read_ask}
use Rattle.index.specs.Preparation.{Preparation, collection_in}

-- the call that asks it of what was prepared, with these areas
abbrev pub asked : Preparation → Ask → List ℕ → List ℕ → Call
asked p ask area spare = record {
  counts = p.counts;
  tables = p.tables;
  ask = ask;
  allowance = p.allowance;
  area = area;
  spare = spare;
}

-- the answer r is that of asking, whatever two areas of those lengths are lent and then hold
abbrev pub IsAnswer : Preparation → Ask → Answer → Type 0
IsAnswer p ask r =
    (area spare : List ℕ) → length area ≡ p.area → length spare ≡ p.spare
    → (x y : List ℕ) × Outcome (asked p ask area spare) r x y

-- what was told of an ask is right where it is declared: whether it is yes
abbrev pub IsTold : Preparation → Ask → Option Bool → Type 0
IsTold p ask told =
    IfSome told (λ yes. AskDeclared p.counts ask → IsTrue yes ↔ IsYes (collection_in p) ask)

-- what was told of the asks of a row, from one on
abbrev pub AreTold : Preparation → List ℕ → ℕ → List (Option Bool) → Type 0
AreTold p t from told = (k : ℕ) → IsTold p (read_ask t (from + k)) (slice_index_or told k None)
