-- One state more, and at the end all.
use Rattle.std.proofs.Common.{rules}
use Rattle.sheet.proofs.Laws.{member_more, members_end, covered}
use Rattle.sheet.proofs.filtering.put_new.Goals as goal

pub loop-s-preserved : goal.loop-s-preserved
loop-s-preserved c = member_more _ c.loop-s.invariant c.in-Some.ensures.steps c.put_new_from.ensures

pub returns : goal.returns
returns c =
    let i = c.loop-s.invariant in
    let v = rw (c.into_iter-s-iterator.ensures.into_iter_gives, c.iter-s-items.ensures) at i in
    covered _ _ (search rules) (λ s q k w. c.sources-from.ensures.has s w.number w.of) (members_end _ v c.in-None.ensures.steps.0)
