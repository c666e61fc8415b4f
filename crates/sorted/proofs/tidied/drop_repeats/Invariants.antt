use Rattle.sorted.proofs.Dedups.{DedupsInPlace}
use Rattle.sorted.proofs.tidied.drop_repeats.Given as goal

abbrev pub invariant-loop-k : goal.invariant-loop-k
invariant-loop-k g l = DedupsInPlace g.T.PartialEq.eq l.initial.records l.records l.kept l.k
