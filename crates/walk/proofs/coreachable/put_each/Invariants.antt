-- `put_each`: the states taken have the concepts.
use Rattle.sets.proofs.Gathering.{Over}
use Rattle.walk.specs.CoReachable.{PutEach, Adds}
use Rattle.walk.proofs.coreachable.put_each.Given as goal

abbrev pub invariant-loop-s : goal.invariant-loop-s
invariant-loop-s l = Over l.fn.states.0 l.s-iterator.rest.0 (λ D. Adds (PutEach D l.concepts.0) l.fn.next l.next)
