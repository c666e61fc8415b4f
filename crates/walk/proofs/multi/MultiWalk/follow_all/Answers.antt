-- `follow_all`: before the first edge nothing is marked, and each edge adds its own.
use Rattle.std.proofs.Common.{[], ◌∷◌, ◌++◌}
use Rattle.walk.proofs.GivenLaws.{given_none, given_more, given_all}
use Rattle.walk.proofs.SendLaws.{edges_none, edges_more, edges_all}
use Rattle.walk.proofs.multi.MultiWalk.follow_all.Goals as goal

pub loop-edge-init : goal.loop-edge-init
loop-edge-init c =
    rw c.into_iter-edge-iterator.ensures.into_iter_gives
    (record { given = []; all = given_none _ _ _ _ c.of-edge-items.ensures; grown = edges_none _ _ _ _ c.requires.ready })

pub follow-requires-clause-ready : goal.follow-requires-clause-ready
follow-requires-clause-ready c = c.loop-edge.invariant.grown.ready

pub follow-requires-clause-part : goal.follow-requires-clause-part
follow-requires-clause-part c = rw c.loop-edge.invariant.grown.all c.requires.part

pub loop-edge-preserved : goal.loop-edge-preserved
loop-edge-preserved c =
    let i = c.loop-edge.invariant in
    let v = c.in-Some.ensures.steps in
    record {
      given = i.given ++ c.in-Some.edge ∷ [];
      all = given_more _ _ _ _ _ _ _ i.all v;
      grown = edges_more _ _ _ _ _ _ _ _ i.grown c.follow.ensures;
    }

pub returns : goal.returns
returns c =
    let i = c.loop-edge.invariant in
    edges_all _ _ _ _ _ (given_all _ _ _ _ _ i.all c.in-None.ensures.steps.0) _ _ i.grown
