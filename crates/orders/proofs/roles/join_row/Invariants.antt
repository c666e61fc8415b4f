-- `join_row`: each mark below s is that of both rows, and from s on the row is as it was.
use Rattle.std.proofs.Common.{false}
use Rattle.laws.specs.Fill.{Filling}
use Rattle.sets.specs.Bits.{role_width}
use Rattle.orders.proofs.Close.{OrMark}
use Rattle.orders.proofs.roles.join_row.Given as goal

abbrev pub invariant-loop-s : goal.invariant-loop-s
invariant-loop-s l = Filling (OrMark l.initial.row l.other) false role_width l.initial.row l.row l.s
