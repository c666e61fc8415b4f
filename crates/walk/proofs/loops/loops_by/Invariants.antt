-- `loops_by`: the sets of the states below s are made.
use Rattle.walk.proofs.LoopLaws.{RowMade}
use Rattle.walk.proofs.loops.loops_by.Given as goal

abbrev pub invariant-loop-s : goal.invariant-loop-s
invariant-loop-s l = RowMade l.sheet l.concepts.0 l.s l.set-items
