-- `outside`: no set has a state at first, and then one more is made.
use Rattle.std.proofs.Common.{rules}
use Rattle.walk.proofs.EndLaws.{outside_none, outside_more}
use Rattle.walk.proofs.walk.outside.Goals as goal

pub loop-b-init : goal.loop-b-init
loop-b-init c = outside_none _

pub loop-b-preserved : goal.loop-b-preserved
loop-b-preserved c = outside_more _ _ _ _ _ c.loop-b.invariant c.loop-b-test.true c.minus.ensures (search rules)
