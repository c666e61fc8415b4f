-- One state more.
use Rattle.sheet.proofs.Laws.{member_more, join_is}
use Rattle.sheet.proofs.joining.left.Goals as goal

pub loop-t-preserved : goal.loop-t-preserved
loop-t-preserved c = member_more _ c.loop-t.invariant c.in-Some.ensures.steps (join_is _ _ _ _ _ c.intersection-both.ensures c.put.ensures)
