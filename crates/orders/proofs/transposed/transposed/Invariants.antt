-- `transposed`: the rows below i are put, but for what holders have of the shared set.
use Rattle.orders.proofs.TransposeLaws.{Transposing}
use Rattle.orders.proofs.transposed.transposed.Given as goal

abbrev pub invariant-loop-i : goal.invariant-loop-i
invariant-loop-i l = Transposing l.rows l.out l.i l.shared.0 l.holders.0
