-- `pack_row`: each mark below j is packed.
use Rattle.orders.proofs.RowLaws.{Packing}
use Rattle.orders.proofs.roles.pack_row.Given as goal

abbrev pub invariant-loop-j : goal.invariant-loop-j
invariant-loop-j l = Packing l.row l.out.0 l.j
