-- One row more.
use Rattle.std.proofs.Common.{arith}
use Rattle.sheet.proofs.Laws.{leads_more, leads_end}
use Rattle.sheet.proofs.through.leads.Goals as goal

pub loop-row-preserved : goal.loop-row-preserved
loop-row-preserved c = leads_more _ _ _ _ c.loop-row.invariant c.union-all.ensures

pub returns : goal.returns
returns c = leads_end _ _ _ _ (omega arith) c.loop-row.invariant c.is_empty.ensures
