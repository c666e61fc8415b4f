-- `close`: `out` is closed through each pivot below k.
use Rattle.orders.proofs.Close.{Closing}
use Rattle.orders.proofs.roles.close.Given as goal

abbrev pub invariant-loop-k : goal.invariant-loop-k
invariant-loop-k l = Closing l.fn.sides.left.0 l.fn.sides.right.0 l.fn.m l.out l.k
