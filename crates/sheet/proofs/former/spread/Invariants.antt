-- The rows below s are put, and nothing else is in the area.
use Rattle.sheet.proofs.FormerLaws.{Spreading}
use Rattle.sheet.proofs.former.spread.Given as goal

abbrev pub invariant-loop-s : goal.invariant-loop-s
invariant-loop-s l = Spreading l.s l.stored l.area
