-- One state more, and at the end all.
use Rattle.std.proofs.Common.{rules}
use Rattle.sets.proofs.Gathering.{over_more, over_end}
use Rattle.sheet.proofs.Laws.{each_gets_more, each_gets_all, loops_covered}
use Rattle.sheet.proofs.through.gather_all.Goals as goal

pub loop-s-preserved : goal.loop-s-preserved
loop-s-preserved c = over_more c.loop-s.invariant c.in-Some.ensures.steps (λ x v. each_gets_more _ x v c.gather_from.ensures)

pub returns : goal.returns
returns c = loops_covered c.args.delta.now c.args.from.0 (search rules) c.requires
    (over_end c.loop-s.invariant c.in-None.ensures.steps.0 (λ same v. each_gets_all _ same v))
