-- `paths`: loops, accepting states and question are those of the collection, so that walks tell what is yes.
use Rattle.index.proofs.Joined.{paths-right}
use Rattle.index.proofs.ground.Ground.paths.Goals as goal

pub returns : goal.returns
returns c =
    let n = c.new-below.ensures in
    let q = c.new-question.ensures in
    let b = rw (← c.self.view_is) at c.requires.below in
    let e = rw (← c.self.view_is) at c.requires.edges in
    let s = rw (← c.self.view_is) at c.requires.sheet in
    rw (← c.self.view_is)
    (paths-right _ _ _ _ c.self.invariant _ b _ c.new-below.result e (rw n.sheet s)
    (rw n.sheet c.fill.ensures) n.below n.transitions n.finals
    q.start q.finals q.accepting)
