use Rattle.expression.proofs.RowLaws.{Leading}
use Rattle.expression.proofs.parts.lead.Given as goal

abbrev pub invariant-loop-j : goal.invariant-loop-j
invariant-loop-j l = Leading l.fn.rows l.from l.to l.rows l.j
