-- `tell_members`: the asks below k whose first is a member have their answers.
use Rattle.walk.specs.Telling.{Tells, OfMembers}
use Rattle.walk.proofs.asks.tell_members.Given as goal

abbrev pub invariant-loop-k : goal.invariant-loop-k
invariant-loop-k l = Tells l.asking (OfMembers l.asking l.component l.k) l.fn.answers l.answers
