-- The rows below q are laid.
use Rattle.sheet.proofs.AreaLaws.{Going}
use Rattle.sheet.proofs.areas.lay.Given as goal

abbrev pub invariant-loop-q : goal.invariant-loop-q
invariant-loop-q l = Going l.sheet l.area l.q
