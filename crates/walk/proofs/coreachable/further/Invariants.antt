-- `further`: the steps by the roles taken are put.
use Rattle.laws.specs.Loops.{Witness}
use Rattle.sets.proofs.Gathering.{Over}
use Rattle.walk.specs.CoReachable.{StepBy, Adds}
use Rattle.walk.proofs.coreachable.further.Given as goal

abbrev pub invariant-loop-role : goal.invariant-loop-role
invariant-loop-role l =
    Over l.fn.roles.0 l.role-iterator.rest.0 (λ D. Adds (λ s B. Witness D (λ R. StepBy l.paths l.now R s B)) l.initial.next l.next)
