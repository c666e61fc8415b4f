-- The rows below s are put back.
use Rattle.sheet.specs.Former.{HasRows}
use Rattle.sheet.proofs.former.gather.Given as goal

abbrev pub invariant-loop-s : goal.invariant-loop-s
invariant-loop-s l = HasRows l.s l.stored l.area
