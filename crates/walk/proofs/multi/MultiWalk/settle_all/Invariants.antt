-- `settle_all`: the individuals below b were settled.
use Rattle.walk.specs.MultiWalks.{Settled, InSets}
use Rattle.walk.proofs.multi.MultiWalk.settle_all.Given as goal

abbrev pub invariant-loop-b : goal.invariant-loop-b
invariant-loop-b l = Settled (InSets l.reached l.b l.sources) l.fn.self l.self
