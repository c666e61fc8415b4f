-- `rows_of` meets its contract: with no role on the left of a rule, each role is below itself alone.
use Rattle.orders.proofs.SideLaws.{own_order}
use Rattle.orders.proofs.roles.rows_of.Goals as goal

pub returns-then-is_empty : goal.returns-then-is_empty
returns-then-is_empty c =
    own_order c.args.rules.numbers.now _ _ _ c.sides_of-sides.ensures (c.is_empty.ensures.0 c.if-is_empty.true) c.own_rows.ensures
