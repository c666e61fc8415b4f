-- A batch of asks: those of a table from a place on, as far as one call answers them.
use Rattle.std.specs.Prelude.{List, ℕ, ◌+◌, ◌-◌, ◌/◌, min, length}
use Rattle.kinds.specs.declared.Ask.{Ask}
use Rattle.tables.specs.Asks.{ask_width, read_ask}
use Rattle.walk.specs.declared.batch.Batch.{Batch}

-- the most asks that one call answers
abbrev pub most_batch : ℕ
most_batch = 256

-- how many asks the batch from a place on has
abbrev pub batch_size : List ℕ → ℕ → ℕ
batch_size t from = min (length t / ask_width - from) most_batch

-- ask j of it
abbrev pub ask_of : List ℕ → ℕ → ℕ → Ask
ask_of t from j = read_ask t (from + j)

abbrev pub size_of : Batch → ℕ
size_of b = batch_size b.asks.numbers.now b.from

abbrev pub ask_in : Batch → ℕ → Ask
ask_in b = ask_of b.asks.numbers.now b.from
