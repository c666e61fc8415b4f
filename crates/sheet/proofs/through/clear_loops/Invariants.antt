-- The loops of the roles that are taken are gone.
use Rattle.sets.proofs.Gathering.{Over}
use Rattle.sheet.specs.Finds.{Forgets}
use Rattle.sheet.proofs.through.clear_loops.Given as goal

abbrev pub invariant-loop-role : goal.invariant-loop-role
invariant-loop-role l = Over l.fn.roles.0 l.role-iterator.rest.0 (λ D. Forgets D l.fn.loops l.loops)
