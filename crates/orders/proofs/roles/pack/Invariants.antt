-- `pack`: each row below i is packed.
use Rattle.orders.proofs.RowLaws.{PackedBelow}
use Rattle.orders.proofs.roles.pack.Given as goal

abbrev pub invariant-loop-i : goal.invariant-loop-i
invariant-loop-i l = PackedBelow l.m l.out l.i
