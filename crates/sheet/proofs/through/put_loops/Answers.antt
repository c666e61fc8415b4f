-- One role more, and at the end all.
use Rattle.sets.proofs.Gathering.{over_more, over_end}
use Rattle.sheet.proofs.Laws.{each_gets_more, each_gets_all}
use Rattle.sheet.proofs.through.put_loops.Goals as goal

pub loop-role-preserved : goal.loop-role-preserved
loop-role-preserved c = over_more c.loop-role.invariant c.in-Some.ensures.steps (λ x v. each_gets_more _ x v c.put_loop_of.ensures)

pub returns : goal.returns
returns c = over_end c.loop-role.invariant c.in-None.ensures.steps.0 (λ same v. each_gets_all _ same v)
