-- `tell_all_picked`: the asks below j that have a place have their answers.
use Rattle.walk.specs.Telling.{Tells, OfPicked}
use Rattle.walk.proofs.asks.tell_all_picked.Given as goal

abbrev pub invariant-loop-j : goal.invariant-loop-j
invariant-loop-j l = Tells l.asking (OfPicked l.asking l.picked l.j) l.fn.answers l.answers
