-- One state more, and at the end all.
use Rattle.std.proofs.Common.{rules}
use Rattle.sheet.proofs.Laws.{member_more, members_end, covered}
use Rattle.sheet.proofs.through.all_trips.Goals as goal

pub loop-s-preserved : goal.loop-s-preserved
loop-s-preserved c = member_more _ c.loop-s.invariant c.in-Some.ensures.steps c.trips_from.ensures

pub returns : goal.returns
returns c =
    let i = c.loop-s.invariant in
    let v = rw (c.into_iter-s-iterator.ensures.into_iter_gives, c.iter-s-items.ensures) at i in
    covered _ _ (search rules) (λ s q k w. c.starts_of-from.ensures s w.of.x w.of.down) (members_end _ v c.in-None.ensures.steps.0)
