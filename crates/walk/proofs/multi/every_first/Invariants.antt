-- `every_first`: the firsts below k are in the word.
use Rattle.std.proofs.Common.{ℕ, ◌<◌}
use Rattle.sets.specs.Bits.{Has}
use Rattle.walk.proofs.multi.every_first.Given as goal

abbrev pub invariant-loop-k : goal.invariant-loop-k
invariant-loop-k l = (j : ℕ) → j < l.k → Has l.all j
