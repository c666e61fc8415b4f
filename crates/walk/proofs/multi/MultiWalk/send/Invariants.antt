-- `send`: the states that are past were marked.
use Rattle.sets.specs.Relations.{states_at}
use Rattle.walk.proofs.SendLaws.{Sending}
use Rattle.walk.proofs.multi.MultiWalk.send.Given as goal

abbrev pub invariant-loop-t : goal.invariant-loop-t
invariant-loop-t l = Sending l.b l.fn.states.0 (states_at l.fn.self.full l.b) l.t-iterator.rest.0 l.sources l.fn.self l.self
