-- `pivot`: each row below i has gone through k, and from i on the rows are as they were.
use Rattle.orders.proofs.RowLaws.{SteppingRows}
use Rattle.orders.proofs.concepts.pivot.Given as goal

abbrev pub invariant-loop-i : goal.invariant-loop-i
invariant-loop-i l = SteppingRows l.initial.rows l.k l.rows l.i
