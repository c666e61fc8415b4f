-- `leading_roles`: one signed role more.
use Rattle.std.proofs.Common.{arith}
use Rattle.sets.specs.Bits.{role_width}
use Rattle.walk.proofs.CoReachableLaws.{roles_more}
use Rattle.walk.proofs.strides.leading_roles.Goals as goal

pub loop-r-preserved : goal.loop-r-preserved
loop-r-preserved c = roles_more _ role_width _ _ _ _ _ c.loop-r.invariant c.loop-r-test.true c.ends_of-ends.ensures c.is_empty.ensures
    c.insert_if.ensures

pub returns : goal.returns
returns c = record { at = λ R s t h. c.loop-r.invariant R s t (omega (arith, c.loop-r-test.false)) }
