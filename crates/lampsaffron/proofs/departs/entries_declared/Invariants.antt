-- The entries below k are declared.
use Rattle.std.specs.Prelude.{◌<◌, ℕ}
use Rattle.lampsaffron.specs.Departs.{entry_at, EntryDeclared}
use Rattle.lampsaffron.proofs.departs.entries_declared.Given as goal

abbrev pub invariant-loop-k : goal.invariant-loop-k
invariant-loop-k l = (k : ℕ) → k < l.k → EntryDeclared l.counts (entry_at l.list k)
