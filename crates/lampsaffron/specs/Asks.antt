-- A row of asks of both kinds, as it is passed and told to another language.
use Rattle.std.specs.Prelude.{◌≡◌, ◌≢◌, List, ℕ, ◌≤◌, ◌<◌, [], ◌∷◌, length}
use Rattle.laws.specs.First.{FirstOf, ◌else◌}
use Rattle.meaning.specs.Lent.{Whole, field}
use Rattle.tables.specs.Asks.{ask_width, read_ask}
use Rattle.index.specs.Preparation.{Preparation}
use Rattle.index.specs.Row.{ask_count, InTurn}
use Rattle.lampsaffron.specs.Boundary.{most_asks, Tells}

-- whole asks, not too many, and an entry for each in both rows that the answers are told in
pub record AsksFit (asks : List ℕ) (numbers counts : ℕ) : Type 0 where
  pub whole : Whole ask_width most_asks asks
  pub number_each : numbers ≡ ask_count asks
  pub count_each : counts ≡ ask_count asks

-- the kind of each ask is 0, a pair, or 1, one individual
pub record KindsFit (asks : List ℕ) : Type 0 where
  pub each : (k : ℕ) → k < ask_count asks → field ask_width asks 0 k ≤ 1

-- the number given: 5 where the lengths do not fit, 6 where a kind does not, and else 0
abbrev pub AsksNumber : List ℕ → ℕ → ℕ → ℕ → Type 0
AsksNumber asks numbers counts =
    FirstOf (AsksFit asks numbers counts else 5 ∷ KindsFit asks else 6 ∷ [])
    (λ number. number ≡ 0)

-- what is left of what was lent: both areas, and the rows of numbers and of counts
pub record Left : Type 0 where
  pub area : List ℕ
  pub spare : List ℕ
  pub numbers : List ℕ
  pub counts : List ℕ

-- all that the call gives and leaves
pub record TellsAsks (p : Preparation) (asks : List ℕ) (old : Left) (number : ℕ) (new : Left)
    : Type 0 where
  pub number_is : AsksNumber asks (length old.numbers) (length old.counts) number
  pub numbers_long : length new.numbers ≡ length old.numbers
  pub counts_long : length new.counts ≡ length old.counts
  pub in_turn : number ≡ 0 → InTurn p (read_ask asks) (Tells new.numbers new.counts)
      old.area old.spare (ask_count asks) new.area new.spare
  pub kept : number ≢ 0 → new ≡ old
