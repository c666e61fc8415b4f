-- `begin`: the firsts below k are marked.
use Rattle.walk.specs.MultiWalks.{Begun}
use Rattle.walk.proofs.multi.MultiWalk.begin.Given as goal

abbrev pub invariant-loop-k : goal.invariant-loop-k
invariant-loop-k l = Begun l.firsts l.start.0 l.fn.count l.k l.self
