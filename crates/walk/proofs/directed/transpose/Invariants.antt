-- `transpose`: the sets of the states that are taken are made.
use Rattle.sets.proofs.Gathering.{Over}
use Rattle.walk.proofs.DirectedLaws.{Turning}
use Rattle.walk.proofs.directed.transpose.Given as goal

abbrev pub invariant-loop-t : goal.invariant-loop-t
invariant-loop-t l = Over l.initial.t-iterator.rest.0 l.t-iterator.rest.0 (λ D. Turning l.relation D l.out)
