-- `settle_at`: the states that are past were settled.
use Rattle.walk.proofs.JumpLaws.{Settling}
use Rattle.walk.proofs.multi.MultiWalk.settle_at.Given as goal

abbrev pub invariant-loop-t : goal.invariant-loop-t
invariant-loop-t l = Settling l.b l.fn.states.0 l.t-iterator.rest.0 l.sources l.fn.self l.self
