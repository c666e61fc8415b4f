-- One row more, and at the end all.
use Rattle.sets.proofs.Gathering.{over_more, over_end}
use Rattle.sheet.proofs.Laws.{each_gets_more, each_gets_all, row_loops}
use Rattle.sheet.proofs.through.gather_from.Goals as goal

pub loop-t-preserved : goal.loop-t-preserved
loop-t-preserved c = over_more c.loop-t.invariant c.in-Some.ensures.steps
    (λ x v. each_gets_more _ x v (row_loops _ _ _ _ c.roles.ensures c.put_loops.ensures))

pub returns : goal.returns
returns c = over_end c.loop-t.invariant c.in-None.ensures.steps.0 (λ same v. each_gets_all _ same v)
