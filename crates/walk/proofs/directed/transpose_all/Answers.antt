-- `transpose_all`: one signed role more.
use Rattle.laws.specs.Fill.{one_more, all_done}
use Rattle.walk.proofs.directed.transpose_all.Goals as goal

pub loop-r-preserved : goal.loop-r-preserved
loop-r-preserved c =
    let h = c.transpose.ensures in
    one_more _ _ _ _ _ _ _ c.loop-r.invariant c.loop-r-test.true (λ _. rw c.inverse.ensures.is at h)

pub returns : goal.returns
returns c = record { at = all_done _ _ _ _ _ _ c.loop-r.invariant c.loop-r-test.false }
