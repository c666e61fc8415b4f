-- One row more.
use Rattle.std.proofs.Common.{arith}
use Rattle.sets.proofs.Gathering.{over_more, over_end}
use Rattle.sheet.proofs.Laws.{drops_more, drops_all, drops_one}
use Rattle.sheet.proofs.marks.clear_from.Goals as goal

pub loop-t-preserved : goal.loop-t-preserved
loop-t-preserved c = over_more c.loop-t.invariant c.in-Some.ensures.steps
    (λ x v. drops_more _ x v (drops_one _ _ _ (omega (arith, v.long, c.told-rows, c.requires, c.in-Some.ensures.steps.within))))

pub returns : goal.returns
returns c = over_end c.loop-t.invariant c.in-None.ensures.steps.0 (λ same v. drops_all _ same v)
