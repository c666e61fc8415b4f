-- `mark_exclusions`: the pairs before the next one are marked both ways.
use Rattle.sets.specs.Rows.{role_marks}
use Rattle.orders.proofs.Listing.{Listing}
use Rattle.clash.specs.Conflicts.{SideOf}
use Rattle.clash.proofs.roles.mark_exclusions.Given as goal

abbrev pub invariant-loop-pair : goal.invariant-loop-pair
invariant-loop-pair l = Listing 64 64 2 (SideOf l.fn.exclusions.numbers.now) l.fn.exclusions.numbers
    (role_marks l.initial.rows) l.pair-iterator.table.numbers l.pair-iterator.next (role_marks l.rows)
