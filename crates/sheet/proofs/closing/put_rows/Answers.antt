-- One state more.
use Rattle.sheet.proofs.Laws.{state_more}
use Rattle.sheet.proofs.closing.put_rows.Goals as goal

pub loop-s-preserved : goal.loop-s-preserved
loop-s-preserved c = state_more _ _ c.loop-s.invariant c.put_rows_from.ensures
