-- `widen`: each row below i is widened.
use Rattle.orders.proofs.RowLaws.{Widened}
use Rattle.orders.proofs.concepts.widen.Given as goal

abbrev pub invariant-loop-i : goal.invariant-loop-i
invariant-loop-i l = Widened l.roles l.out l.i
