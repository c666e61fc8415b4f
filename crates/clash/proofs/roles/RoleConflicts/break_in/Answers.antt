-- `break_in` meets its contract: what is excluded from the role meets what follows from it.
use Rattle.clash.proofs.RoleLaws.{role_broken}
use Rattle.clash.proofs.roles.RoleConflicts.break_in.Goals as goal

pub returns : goal.returns
returns c = role_broken _ _ _ _ _ c.requires.conflicts c.requires.row c.meet.ensures
