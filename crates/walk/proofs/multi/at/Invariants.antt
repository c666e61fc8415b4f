-- `at`: the firsts of the states that are past.
use Rattle.walk.proofs.TellLaws.{Gathered}
use Rattle.walk.proofs.multi.at.Given as goal

abbrev pub invariant-loop-s : goal.invariant-loop-s
invariant-loop-s l = Gathered l.fn.states.0 l.s-iterator.rest.0 l.words l.out
