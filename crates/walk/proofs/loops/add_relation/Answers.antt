-- `add_relation`: one state more.
use Rattle.laws.specs.Fill.{one_more, all_done}
use Rattle.walk.proofs.loops.add_relation.Goals as goal

pub loop-s-preserved : goal.loop-s-preserved
loop-s-preserved c = one_more _ _ _ _ _ _ _ c.loop-s.invariant c.loop-s-test.true (λ e. let u = c.union.ensures in rw e at u)

pub returns : goal.returns
returns c = record { long = c.loop-s.invariant.long; at = all_done _ _ _ _ _ _ c.loop-s.invariant c.loop-s-test.false }
