-- The rows before this one.
use Rattle.rules.proofs.MadeLaws.{Unites}
use Rattle.rules.proofs.made.has_none.Given as goal

abbrev pub invariant-loop-row : goal.invariant-loop-row
invariant-loop-row l = Unites l.tests l.row-index l.all.0
