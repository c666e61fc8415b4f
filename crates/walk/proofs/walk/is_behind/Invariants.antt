-- `is_behind`: the test fails only where the first i individuals have no states to follow.
use Rattle.walk.specs.Passes.{Behind}
use Rattle.walk.proofs.walk.is_behind.Given as goal

abbrev pub invariant-loop-i : goal.invariant-loop-i
invariant-loop-i l = Behind l.at l.i l.reached l.followed l.differs
