-- One state more.
use Rattle.sheet.proofs.Laws.{member_more, new_put}
use Rattle.sheet.proofs.filtering.put_new_from.Goals as goal

pub loop-t-preserved : goal.loop-t-preserved
loop-t-preserved c = member_more _ c.loop-t.invariant c.in-Some.ensures.steps (new_put _ _ _ _ _ _ c.new_row-new.ensures c.put_some.ensures)
