-- `others`: the states below s are in where they are not in the set.
use Rattle.sets.proofs.Gathering.{Gathering}
use Rattle.walk.specs.Accepting.{IsOpen}
use Rattle.walk.proofs.accepting.others.Given as goal

abbrev pub invariant-loop-s : goal.invariant-loop-s
invariant-loop-s l = Gathering (IsOpen l.set.0) l.s l.out.0
