-- `loops_from`: the states below t are in where a loop leads to them.
use Rattle.sets.proofs.Gathering.{Gathering}
use Rattle.walk.specs.Loops.{LoopTo}
use Rattle.walk.proofs.loops.loops_from.Given as goal

abbrev pub invariant-loop-t : goal.invariant-loop-t
invariant-loop-t l = Gathering (LoopTo l.sheet l.concepts.0 l.s) l.t l.out.0
