-- `mark_rules` meets its contract: a turn marks one rule and its inverse.
use Rattle.tables.specs.Records.{read_role_pair}
use Rattle.meaning.specs.Lent.{rule_width}
use Rattle.sets.specs.Bits.{role_width}
use Rattle.orders.proofs.Listing.{listing_more}
use Rattle.orders.proofs.roles.mark_rules.Goals as goal

pub loop-rule-preserved : goal.loop-rule-preserved
loop-rule-preserved c =
    let marked = c.loop-rule.invariant.marked in
    let next = c.in-Some.ensures.steps in
    record {
      square = c.mark_rule.ensures.square;
      marked = listing_more role_width role_width rule_width _ _ _ read_role_pair _ _ _ _ _ _ _ marked next.0 next.1
          (rw (next.0.is, marked.same) at c.mark_rule.ensures.marks);
    }
