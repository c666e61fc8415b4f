-- `concerned` meets its contract: all rows are told.
use Rattle.std.proofs.Common.{arith}
use Rattle.clash.proofs.RoleLaws.{concerned_end}
use Rattle.clash.proofs.roles.concerned.Goals as goal

pub returns : goal.returns
returns c = concerned_end _ _ _ _ c.loop-r.r _ c.mark_exclusions.ensures c.union_of-sides.ensures c.loop-r.invariant (omega arith)
