-- `left_of` meets its contract: a row that has all of the shared set leaves its other members.
use Rattle.std.proofs.Common.{rules}
use Rattle.orders.proofs.RowLaws.{read_number}
use Rattle.orders.proofs.TransposeLaws.{leaves_holder}
use Rattle.orders.proofs.transposed.left_of.Goals as goal

pub returns : goal.returns
returns c =
    leaves_holder c.args.shared.0 c.args.i c.args.row.0 _ c.intersection.result.0 _ _ c.intersection.ensures (search rules) c.requires
    (rw (read_number c.read.result c.args.i c.read.ensures) at c.insert.ensures) c.minus.ensures
