-- `any_declared`: no ask so far is declared.
use Rattle.std.proofs.Common.{ℕ, ◌<◌}
use Rattle.kinds.specs.Asks.{AskDeclared}
use Rattle.tables.specs.Asks.{read_ask}
use Rattle.index.proofs.row.any_declared.Given as goal

abbrev pub invariant-loop-k : goal.invariant-loop-k
invariant-loop-k l = (j : ℕ) → j < l.k → AskDeclared l.counts (read_ask l.asks.numbers.now j) → ⊥
