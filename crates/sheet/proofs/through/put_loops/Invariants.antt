-- The roles that are taken have the loop.
use Rattle.rules.specs.Transitions.{GainsEach}
use Rattle.sets.proofs.Gathering.{Over}
use Rattle.sheet.specs.Finds.{PutLoops}
use Rattle.sheet.proofs.through.put_loops.Given as goal

abbrev pub invariant-loop-role : goal.invariant-loop-role
invariant-loop-role l = Over l.fn.roles.0 l.role-iterator.rest.0 (λ D. GainsEach (PutLoops D l.s l.t.0) l.fn.loops l.loops)
