-- `lead`: loops and edges are all strides from the node.
use Rattle.std.proofs.Common.{rules}
use Rattle.walk.proofs.SendLaws.{strides_all}
use Rattle.walk.proofs.SweepLaws.{led}
use Rattle.walk.proofs.multi.MultiWalk.lead.Goals as goal

pub returns : goal.returns
returns c =
    let g = c.send.ensures in
    let h = c.follow_all.ensures in
    led _ _ _ _ _ _ c.requires.ready c.requires.row c.requires.behind (search rules) c.only.ensures c.minus.ensures _
    (strides_all _ _ _ _ _ _ _ c.requires.row (rw (c.states_from.ensures, c.word_of-sources.ensures) at g)
    (rw c.word_of-sources.ensures at h))
