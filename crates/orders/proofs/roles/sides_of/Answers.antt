-- `sides_of` meets its contract: a turn puts in both sides of one rule.
use Rattle.orders.proofs.SideLaws.{sided_end, sided_more}
use Rattle.orders.proofs.roles.sides_of.Goals as goal

pub loop-rule-preserved : goal.loop-rule-preserved
loop-rule-preserved c =
    let next = c.in-Some.ensures.steps in
    sided_more _ _ _ _ _ _ _ _ _ _ c.loop-rule.invariant next.0 next.1 c.insert_both.ensures c.insert_both-in-loop-rule.ensures

pub returns : goal.returns
returns c = sided_end _ _ _ _ _ c.loop-rule.invariant c.in-None.ensures.steps.0.0
