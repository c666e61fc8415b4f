-- One state more.
use Rattle.sheet.proofs.Laws.{member_more}
use Rattle.sheet.proofs.closing.add_from.Goals as goal

pub loop-t-preserved : goal.loop-t-preserved
loop-t-preserved c = member_more _ c.loop-t.invariant c.in-Some.ensures.steps c.put.ensures
