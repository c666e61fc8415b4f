-- `alive`: the final states are in, and those below t from which the rows lead on.
use Rattle.walk.specs.CoReachable.{AreAlive}
use Rattle.walk.proofs.coreachable.alive.Given as goal

abbrev pub invariant-loop-t : goal.invariant-loop-t
invariant-loop-t l = AreAlive l.paths.finals.0 l.now l.t l.out.0
