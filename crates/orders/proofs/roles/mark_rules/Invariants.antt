-- `mark_rules`: the rules before the next one are marked, and the array is still square.
use Rattle.laws.specs.Marks.{mark}
use Rattle.orders.specs.Marks.{RoleHit, Square}
use Rattle.meaning.specs.Lent.{rule_width}
use Rattle.sets.specs.Bits.{role_width}
use Rattle.orders.proofs.Listing.{Listing}
use Rattle.orders.proofs.roles.mark_rules.Given as goal

abbrev pub invariant-loop-rule : goal.invariant-loop-rule
invariant-loop-rule l = record {
  square : Square role_width l.m;
  marked : Listing role_width role_width rule_width (RoleHit l.fn.rules.numbers.now) l.fn.rules.numbers
      (mark l.initial.m) l.rule-iterator.table.numbers l.rule-iterator.next (mark l.m);
}
