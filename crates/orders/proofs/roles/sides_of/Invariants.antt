-- `sides_of`: the sets have both sides of the rules before the next one.
use Rattle.orders.proofs.SideLaws.{Sided}
use Rattle.orders.proofs.roles.sides_of.Given as goal

abbrev pub invariant-loop-rule : goal.invariant-loop-rule
invariant-loop-rule l = Sided l.fn.rules.numbers l.rule-iterator.table.numbers l.rule-iterator.next l.left.0 l.right.0
