-- `lay_out`: the rows say what the collection says.
use Rattle.index.proofs.Joined.{rows-right}
use Rattle.index.proofs.ground.Ground.lay_out.Goals as goal

pub returns : goal.returns
returns c =
    let f = c.fill.ensures in
    let b = rw (← c.self.view_is) at c.requires.below in
    let w = rw (← c.self.view_is) at c.requires.transitions in
    rw (← c.self.view_is) (rows-right _ _ _ _ c.self.invariant _ b _ _ w f.states f.concepts f.tests f.edges_to f.edges)
