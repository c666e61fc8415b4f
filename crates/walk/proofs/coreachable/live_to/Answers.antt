-- `live_to`: none, one state more, all that are alive.
use Rattle.std.proofs.Common.{◌+◌}
use Rattle.kinds.specs.Kinds.{base}
use Rattle.sets.proofs.Gathering.{over_start, over_more, over_end}
use Rattle.walk.specs.CoReachable.{IsLive}
use Rattle.walk.proofs.CoReachableLaws.{live_test, live_end, kept_more, gathered_none, gathered_as}
use Rattle.walk.proofs.coreachable.live_to.Goals as goal

pub loop-t-init : goal.loop-t-init
loop-t-init c =
    rw (c.into_iter-t-iterator.ensures.into_iter_gives, c.iter-t-items.ensures)
    (over_start (λ none. gathered_none _ (λ t q. none t q.0)))

pub loop-t-preserved : goal.loop-t-preserved
loop-t-preserved c =
    let low = c.in-Some.ensures.steps.within in
    over_more c.loop-t.invariant c.in-Some.ensures.steps
    (λ x v. kept_more (IsLive c.args.paths.now.finals.0 c.args.now.now (base + c.args.back.0)) x v low
    (live_test _ _ _ _ _ low c.goes.ensures) c.insert_if.ensures)

pub returns : goal.returns
returns c = over_end c.loop-t.invariant c.in-None.ensures.steps.0
    (λ same v. live_end _ _ _ _ _ c.requires (gathered_as _ _ _ (λ t. (λ q. ((same t).0 q.0, q.1), λ q. ((same t).1 q.0, q.1))) v))
