-- `marked_in`: the firsts that reach states of the individuals below b.
use Rattle.walk.specs.Sources.{IsIn}
use Rattle.walk.proofs.multi.MultiWalk.marked_in.Given as goal

abbrev pub invariant-loop-b : goal.invariant-loop-b
invariant-loop-b l = IsIn l.self.words l.sets l.b l.out
