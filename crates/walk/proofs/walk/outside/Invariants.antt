-- `outside`: no set has a node of the given ones.
use Rattle.walk.specs.Passes.{AreOutside}
use Rattle.walk.proofs.walk.outside.Given as goal

abbrev pub invariant-loop-b : goal.invariant-loop-b
invariant-loop-b l = AreOutside l.sets l.out
