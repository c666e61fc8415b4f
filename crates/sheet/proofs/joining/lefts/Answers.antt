-- One row more.
use Rattle.sheet.proofs.Laws.{member_more}
use Rattle.sheet.proofs.joining.lefts.Goals as goal

pub loop-u-preserved : goal.loop-u-preserved
loop-u-preserved c = member_more _ c.loop-u.invariant c.in-Some.ensures.steps c.left.ensures
