-- `pivot`: each row below i has gone through k, and from i on the rows are as they were.
use Rattle.sets.specs.Bits.{role_width}
use Rattle.orders.proofs.Close.{SteppingMatrix}
use Rattle.orders.proofs.roles.pivot.Given as goal

abbrev pub invariant-loop-i : goal.invariant-loop-i
invariant-loop-i l = SteppingMatrix role_width l.fn.m l.row l.k l.m l.i
