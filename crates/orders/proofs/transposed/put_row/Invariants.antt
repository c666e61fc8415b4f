-- `put_row`: the concept i is in the rows of the members that are past.
use Rattle.std.proofs.Common.{◌≡◌, length}
use Rattle.sets.specs.Bits.{concept_width}
use Rattle.sets.specs.Rows.{concept_marks}
use Rattle.orders.proofs.TransposeLaws.{Putting}
use Rattle.orders.proofs.transposed.put_row.Given as goal

abbrev pub invariant-loop-above : goal.invariant-loop-above
invariant-loop-above l = record {
  long : length l.out ≡ concept_width;
  put : Putting (λ j. j ≡ l.i) l.fn.members.0 l.above-iterator.rest.0 (concept_marks l.initial.out) (concept_marks l.out);
}
