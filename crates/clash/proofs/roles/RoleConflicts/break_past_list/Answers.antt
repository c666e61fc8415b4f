-- `break_past_list`: past the last individual there is none.
use Rattle.clash.proofs.SeekLaws.{past_end}
use Rattle.clash.proofs.roles.RoleConflicts.break_past_list.Goals as goal

pub returns : goal.returns
returns c = past_end _ _ _ c.loop-a.invariant c.loop-a-test.false
