-- `own_rows` meets its contract: a turn stores the set of one role.
use Rattle.std.proofs.Common.{arith}
use Rattle.laws.specs.Fill.{one_more}
use Rattle.orders.proofs.SideLaws.{own_end}
use Rattle.orders.proofs.roles.own_rows.Goals as goal

pub loop-i-preserved : goal.loop-i-preserved
loop-i-preserved c = one_more _ _ _ _ _ _ _ c.loop-i.invariant c.loop-i-test.true (λ _. c.only.ensures)

pub returns : goal.returns
returns c = own_end _ _ _ c.loop-i.invariant (omega arith)
