-- `transposed` meets its contract: at first nothing is put.
use Rattle.orders.proofs.TransposeLaws.{transposing_start}
use Rattle.orders.proofs.transposed.transposed.Goals as goal

pub loop-i-init : goal.loop-i-init
loop-i-init c = transposing_start c.args.rows.now c.shared_row-shared.result.0
