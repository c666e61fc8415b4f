-- `ends_of_each`: one signed role more.
use Rattle.laws.specs.Fill.{one_more, all_done}
use Rattle.walk.proofs.directed.ends_of_each.Goals as goal

pub loop-r-preserved : goal.loop-r-preserved
loop-r-preserved c = one_more _ _ _ _ _ _ _ c.loop-r.invariant c.loop-r-test.true (λ _. c.ends_of.ensures)

pub returns : goal.returns
returns c = record { at = all_done _ _ _ _ _ _ c.loop-r.invariant c.loop-r-test.false }
