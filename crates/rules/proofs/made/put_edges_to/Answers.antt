-- One role more, and at the end all.
use Rattle.std.proofs.Common.{arith}
use Rattle.laws.specs.Fill.{one_more, all_done}
use Rattle.sets.specs.Rows.{no_roles}
use Rattle.rules.specs.Rows.{most_edges}
use Rattle.rules.proofs.MadeLaws.{EdgesTo, edges_are}
use Rattle.rules.proofs.made.put_edges_to.Goals as goal

pub loop-r-preserved : goal.loop-r-preserved
loop-r-preserved c = one_more _ _ _ _ _ _ _ c.loop-r.invariant c.loop-r-test.true (λ _. c.edges_to.ensures)

pub returns : goal.returns
returns c = edges_are most_edges _ (all_done EdgesTo no_roles most_edges _ _ _ c.loop-r.invariant (omega arith))
