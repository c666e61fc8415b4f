-- `ends_of`: the states to which the first states lead are in.
use Rattle.walk.proofs.DirectedLaws.{Ending}
use Rattle.walk.proofs.directed.ends_of.Given as goal

abbrev pub invariant-loop-set : goal.invariant-loop-set
invariant-loop-set l = Ending l.relation l.set-index l.out.0
