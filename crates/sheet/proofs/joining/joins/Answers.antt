-- One state more, and at the end all.
use Rattle.std.proofs.Common.{rules}
use Rattle.sheet.proofs.Laws.{member_more, members_end, covered, joined_from}
use Rattle.sheet.proofs.joining.joins.Goals as goal

pub loop-s-preserved : goal.loop-s-preserved
loop-s-preserved c = member_more _ c.loop-s.invariant c.in-Some.ensures.steps c.join_from.ensures

pub returns : goal.returns
returns c = covered _ c.args.from.0 (search rules)
    (λ s q k w. joined_from c.args.delta.now c.args.sheet.now c.args.from.0 s q k c.requires w)
    (members_end _ c.loop-s.invariant c.in-None.ensures.steps.0)
