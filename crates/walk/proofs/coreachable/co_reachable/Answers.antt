-- `co_reachable`: nothing is there, then more at each turn, until nothing is added.
use Rattle.std.proofs.Common.{arith}
use Rattle.walk.proofs.CoReachableLaws.{leading_start, leading_more, leading_end, total_less, total_within}
use Rattle.walk.proofs.coreachable.co_reachable.Goals as goal

pub loop-roles-init : goal.loop-roles-init
loop-roles-init c = leading_start _

pub returns-then-same : goal.returns-then-same
returns-then-same c = leading_end _ _ _ c.loop-roles.invariant c.further-next.ensures (c.same.ensures.alike c.if-same.true)

pub loop-roles-smaller : goal.loop-roles-smaller
loop-roles-smaller c =
    let d = c.same.ensures.differ c.if-same.false in
    omega (
      arith,
      total_less _ _ _ c.loop-roles.invariant c.further-next.ensures d.0 d.1 d.2,
      total_within _ _ _ c.loop-roles.invariant c.further-next.ensures,
    )

pub loop-roles-preserved : goal.loop-roles-preserved
loop-roles-preserved c = leading_more _ _ _ c.loop-roles.invariant c.further-next.ensures

pub further-next-requires : goal.further-next-requires
further-next-requires c = c.leading_roles-roles.ensures
