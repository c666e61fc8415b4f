-- `kinds_fit`: the kinds below k are 0 or 1.
use Rattle.std.specs.Prelude.{ℕ, ◌<◌, ◌≤◌}
use Rattle.meaning.specs.Lent.{field}
use Rattle.tables.specs.Asks.{ask_width}
use Rattle.lampsaffron.proofs.asks.kinds_fit.Given as goal

abbrev pub invariant-loop-k : goal.invariant-loop-k
invariant-loop-k l = (j : ℕ) → j < l.k → field ask_width l.asks 0 j ≤ 1
