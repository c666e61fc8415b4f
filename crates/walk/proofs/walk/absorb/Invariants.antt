-- `absorb`: the sets of the individuals below b are taken.
use Rattle.walk.specs.Passes.{Absorbs}
use Rattle.walk.proofs.walk.absorb.Given as goal

abbrev pub invariant-loop-b : goal.invariant-loop-b
invariant-loop-b l = Absorbs l.ahead l.b l.fn.walk l.walk
