-- `accepting_of`: the states below s are in where they accept.
use Rattle.sets.proofs.Gathering.{Gathering}
use Rattle.walk.specs.Accepting.{AcceptsNumber}
use Rattle.walk.proofs.accepting.accepting_of.Given as goal

abbrev pub invariant-loop-s : goal.invariant-loop-s
invariant-loop-s l = Gathering (AcceptsNumber l.paths.finals.0 l.onward l.concepts.0) l.s l.out.0
