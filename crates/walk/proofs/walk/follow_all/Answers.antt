-- `follow_all`: before the first edge nothing is added, and each edge adds its own.
use Rattle.std.proofs.Common.{[], ◌∷◌, ◌++◌}
use Rattle.walk.proofs.DirectedLaws.{images_none}
use Rattle.walk.proofs.GivenLaws.{given_none, given_more, given_all}
use Rattle.walk.proofs.GrowLaws.{followed_none, followed_more, followed_all}
use Rattle.walk.proofs.walk.follow_all.Goals as goal

pub loop-edge-init : goal.loop-edge-init
loop-edge-init c =
    rw c.into_iter-edge-iterator.ensures.into_iter_gives
    (record { given = []; all = given_none _ _ _ _ c.of-edge-items.ensures; grows = followed_none _ _ _; made = images_none _ _ })

pub follow-grew-requires-clause-ready : goal.follow-grew-requires-clause-ready
follow-grew-requires-clause-ready c = c.loop-edge.invariant.grows.raised.ready c.requires.ready

pub loop-edge-preserved : goal.loop-edge-preserved
loop-edge-preserved c =
    let i = c.loop-edge.invariant in
    let v = c.in-Some.ensures.steps in
    record {
      given = i.given ++ c.in-Some.edge ∷ [];
      all = given_more _ _ _ _ _ _ _ i.all v;
      grows = followed_more _ _ _ _ _ _ _ _ _ i.grows c.follow-grew.ensures.grows;
      made = c.follow-grew.ensures.made;
    }

pub returns : goal.returns
returns c = let i = c.loop-edge.invariant in followed_all _ _ _ _ _ (given_all _ _ _ _ _ i.all c.in-None.ensures.steps.0) i.grows
