-- `read_order`: the numbers below k are read.
use Rattle.std.specs.Prelude.{◌≡◌, take}
use Rattle.lampsaffron.specs.Salvage.{order_in}
use Rattle.lampsaffron.proofs.kept.read_order.Given as goal

abbrev pub invariant-loop-k : goal.invariant-loop-k
invariant-loop-k l = take l.k l.typed ≡ order_in (take l.k l.order)
