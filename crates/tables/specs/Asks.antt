-- How an ask is read in a row of asks.
use Rattle.std.specs.Prelude.{List, ℕ, zero, suc}
use Rattle.kinds.specs.declared.Ask.{Ask}
use Rattle.kinds.specs.declared.Ask.TheVariants.{Pair, From}
use Rattle.kinds.specs.Kinds.{individual}
use Rattle.meaning.specs.Lent.{field}

-- the numbers of an ask in a row of them
abbrev pub ask_width : ℕ
ask_width = 3

-- the kind of an ask is 0 for a pair, and else one end is named, the first
abbrev pub ask_by : ℕ → ℕ → ℕ → Ask
ask_by zero first second = Pair (individual first) (individual second)
ask_by (suc kind) first second = From (individual first)

-- ask k of a row of them
abbrev pub read_ask : List ℕ → ℕ → Ask
read_ask t k = ask_by (field ask_width t 0 k) (field ask_width t 1 k) (field ask_width t 2 k)
