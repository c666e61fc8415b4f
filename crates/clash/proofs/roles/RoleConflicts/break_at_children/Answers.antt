-- `break_at_children`: an element and its child by a role decide its turn.
use Rattle.clash.proofs.SeekLaws.{never, seek_more}
use Rattle.clash.proofs.roles.RoleConflicts.break_at_children.Goals as goal

pub loop-role-preserved : goal.loop-role-preserved
loop-role-preserved c = seek_more _ _ _ _ _ _ c.loop-role.invariant c.in-Some.ensures.steps
    (never c.break_at_child.ensures c.if-break_at_child.false)
