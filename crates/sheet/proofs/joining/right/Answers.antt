-- One row more.
use Rattle.sheet.proofs.Laws.{member_more, join_is}
use Rattle.sheet.proofs.joining.right.Goals as goal

pub loop-u-preserved : goal.loop-u-preserved
loop-u-preserved c = member_more _ c.loop-u.invariant c.in-Some.ensures.steps (join_is _ _ _ _ _ c.intersection-both.ensures c.put.ensures)
