-- One role more, and at the end all.
use Rattle.std.proofs.Common.{arith}
use Rattle.kinds.specs.Kinds.{most_states}
use Rattle.sets.proofs.Gathering.{over_more, over_end}
use Rattle.sheet.proofs.Laws.{forgets_more, forgets_all, forgets_one}
use Rattle.sheet.proofs.through.clear_loops.Goals as goal

pub loop-role-preserved : goal.loop-role-preserved
loop-role-preserved c = over_more c.loop-role.invariant c.in-Some.ensures.steps
    (λ x v. forgets_more x v (forgets_one most_states _ _ (omega (arith, v.long, c.told-loops, c.in-Some.ensures.steps.within))))

pub returns : goal.returns
returns c = over_end c.loop-role.invariant c.in-None.ensures.steps.0 (λ same v. forgets_all same v)
