-- One edge more.
use Rattle.sheet.proofs.Laws.{member_more, members_end}
use Rattle.sheet.proofs.through.through_child.Goals as goal

pub loop-e-preserved : goal.loop-e-preserved
loop-e-preserved c = record {
  put = member_more _ c.loop-e.invariant.put c.in-Some.ensures.steps c.through_edge.ensures.put;
  last = c.through_edge.ensures.last;
}

pub returns-clause-put : goal.returns-clause-put
returns-clause-put c = let a = members_end _ c.loop-e.invariant.put c.in-None.ensures.steps.0 in rw
    (c.into_iter-e-iterator.ensures.into_iter_gives, c.iter-e-items.ensures) at a
