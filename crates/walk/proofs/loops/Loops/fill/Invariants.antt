-- `Loops::fill`: the rows of the individuals below a are made.
use Rattle.walk.proofs.LoopLaws.{LoopsMade}
use Rattle.walk.proofs.loops.Loops.fill.Given as goal

abbrev pub invariant-loop-a : goal.invariant-loop-a
invariant-loop-a l = LoopsMade l.individuals l.sheet l.a l.self.rows
