use Rattle.expression.proofs.DepthLaws.{Scanning}
use Rattle.expression.proofs.marks.is_too_deep.Given as goal

abbrev pub invariant-loop-mark : goal.invariant-loop-mark
invariant-loop-mark l = Scanning l.marks l.mark-index l.opened l.closed
