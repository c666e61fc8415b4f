-- One state more, and at the end all.
use Rattle.std.proofs.Common.{rules}
use Rattle.sheet.proofs.Laws.{member_more, members_end, covered}
use Rattle.sheet.proofs.closing.add.Goals as goal

pub loop-s-preserved : goal.loop-s-preserved
loop-s-preserved c = member_more _ c.loop-s.invariant c.in-Some.ensures.steps c.add_from.ensures

pub returns : goal.returns
returns c = covered _ c.args.from.0 (search rules) (λ s q k w. c.requires.has s w.number w.of)
    (members_end _ c.loop-s.invariant c.in-None.ensures.steps.0)
