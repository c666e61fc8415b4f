-- `with_marks`: the sets of the states below s are made.
use Rattle.laws.specs.Fill.{Filling}
use Rattle.kinds.specs.Kinds.{most_states}
use Rattle.walk.proofs.CoReachableLaws.{IsMarked, no_concepts}
use Rattle.walk.proofs.coreachable.with_marks.Given as goal

abbrev pub invariant-loop-s : goal.invariant-loop-s
invariant-loop-s l = Filling (IsMarked l.paths l.now) no_concepts most_states l.now l.next l.s
