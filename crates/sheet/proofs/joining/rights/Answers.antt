-- One state more, and at the end all that lead to s.
use Rattle.std.proofs.Common.{rules}
use Rattle.sheet.proofs.Laws.{member_more, members_end, rights_all}
use Rattle.sheet.proofs.joining.rights.Goals as goal

pub loop-r-preserved : goal.loop-r-preserved
loop-r-preserved c = member_more _ c.loop-r.invariant c.in-Some.ensures.steps c.right.ensures

pub returns : goal.returns
returns c =
    let a = members_end _ c.loop-r.invariant c.in-None.ensures.steps.0 in
    rights_all c.args.delta.now c.args.sheet.now _ _ _ c.requires c.only.ensures (search rules) c.preimage-before.ensures
    (rw (c.into_iter-r-iterator.ensures.into_iter_gives, c.iter-r-items.ensures) at a)
