-- `mark_rule` meets its contract: first the pair is marked, then the pair of the inverses.
use Rattle.orders.proofs.Follow.{adds_with_inverses}
use Rattle.orders.proofs.roles.mark_rule.Goals as goal

pub returns-clause-marks : goal.returns-clause-marks
returns-clause-marks c =
    adds_with_inverses _ _ _ c.args.rule.left c.args.rule.right _ _ c.mark_pair.ensures.marks c.mark_pair-2.ensures.marks
    c.inverse.ensures c.inverse-2.ensures
