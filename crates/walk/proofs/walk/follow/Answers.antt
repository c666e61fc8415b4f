-- `follow`: nothing where no state can be new, else the image of the states by the edge's role.
use Rattle.walk.proofs.GrowLaws.{grows_edge, edge_passed}
use Rattle.walk.proofs.walk.follow.Goals as goal

pub returns-then-ends_within-clause-grows : goal.returns-then-ends_within-clause-grows
returns-then-ends_within-clause-grows c = edge_passed c.args.guide.now c.args.edge _ _ (c.ends_within.ensures c.if-ends_within.true)

pub returns-clause-grows : goal.returns-clause-grows
returns-clause-grows c = grows_edge c.args.guide.now c.args.edge _ _ _ _ _ c.by-next.ensures.image c.join.ensures
