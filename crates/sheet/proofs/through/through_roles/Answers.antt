-- One role more.
use Rattle.sheet.proofs.Laws.{member_more}
use Rattle.sheet.proofs.through.through_roles.Goals as goal

pub loop-role-preserved : goal.loop-role-preserved
loop-role-preserved c = record {
  put = member_more _ c.loop-role.invariant.put c.in-Some.ensures.steps c.through_child.ensures.put;
  last = c.through_child.ensures.last;
}
