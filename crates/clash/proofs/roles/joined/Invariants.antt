-- `joined`: the set has what the rows of the members that are past have.
use Rattle.sets.specs.Rows.{role_marks}
use Rattle.clash.proofs.RoleLaws.{Joining}
use Rattle.clash.proofs.roles.joined.Given as goal

abbrev pub invariant-loop-role : goal.invariant-loop-role
invariant-loop-role l = Joining (role_marks l.rows) l.fn.members.0 l.role-iterator.rest.0 l.out.0
