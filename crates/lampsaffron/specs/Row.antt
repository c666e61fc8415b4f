-- A row of pairs as it is told to another language.
use Rattle.std.specs.Prelude.{◌≡◌, List, ℕ, ◌+◌, ◌*◌, ◌<◌, length, slice_index}
use Rattle.tables.specs.Asks.{ask_width}
use Rattle.index.specs.Preparation.{Preparation}
use Rattle.index.specs.Row.{InTurn}
use Rattle.lampsaffron.specs.Boundary.{pair_width, most_asks, pair_count, pair_at, RowFits, Tells}

-- the pairs t, asked in turn, are told as these numbers and counts, and x and y are left
pub record TellsRow (p : Preparation) (t area spare numbers counts x y : List ℕ) : Type 0 where
  pub fits : RowFits t (length numbers) (length counts)
  pub in_turn : InTurn p (pair_at t) (Tells numbers counts) area spare (pair_count t) x y

-- ask k of a row is pair k
pub record HasPair (pairs row : List ℕ) (k : ℕ) : Type 0 where
  pub kind : slice_index row (ask_width * k) ≡ 0
  pub first : slice_index row (ask_width * k + 1) ≡ slice_index pairs (pair_width * k)
  pub second : slice_index row (ask_width * k + 2) ≡ slice_index pairs (pair_width * k + 1)

-- the first n are
pub record HasPairs (pairs row : List ℕ) (n : ℕ) : Type 0 where
  pub long : length row ≡ ask_width * most_asks
  pub each : (k : ℕ) → k < n → HasPair pairs row k
