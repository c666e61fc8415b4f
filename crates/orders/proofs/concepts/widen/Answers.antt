-- `widen` meets its contract: it begins with no mark, and a turn widens one row.
use Rattle.std.proofs.Common.{arith}
use Rattle.orders.proofs.RowLaws.{widened_start, widened_more}
use Rattle.orders.proofs.concepts.widen.Goals as goal

pub loop-i-init : goal.loop-i-init
loop-i-init c = widened_start c.args.roles.now

pub loop-i-preserved : goal.loop-i-preserved
loop-i-preserved c = widened_more c.args.roles.now c.loop-i.out c.loop-i.i c.exists.result c.loop-i.invariant
    (omega arith) c.loop-i-test.true c.exists.ensures
