-- `insert_both` meets its contract: first the role is put in, then its inverse.
use Rattle.orders.proofs.SideLaws.{both_inserted}
use Rattle.orders.proofs.roles.insert_both.Goals as goal

pub returns : goal.returns
returns c = both_inserted _ _ _ c.args.role c.inverse.result c.insert.ensures c.inverse.ensures c.insert-2.ensures
