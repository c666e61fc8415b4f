-- `concerned`: the set has those of the roles below r that an exclusion concerns.
use Rattle.clash.proofs.RoleLaws.{ConcernedBelow}
use Rattle.clash.proofs.roles.concerned.Given as goal

abbrev pub invariant-loop-r : goal.invariant-loop-r
invariant-loop-r l = ConcernedBelow l.roles.above l.sides.0 l.r l.concerned.0
