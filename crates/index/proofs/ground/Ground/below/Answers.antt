-- `below`: the transposed order is the collection's.
use Rattle.index.proofs.Joined.{below-right}
use Rattle.index.proofs.ground.Ground.below.Goals as goal

pub returns : goal.returns
returns c = rw (← c.self.view_is) (below-right _ _ _ _ c.self.invariant _ c.transposed.ensures)
