-- `put_shared`: all holders are in the rows of the members that are past.
use Rattle.std.proofs.Common.{◌≡◌, length}
use Rattle.sets.specs.Bits.{concept_width, Has}
use Rattle.sets.specs.Rows.{concept_marks}
use Rattle.orders.proofs.TransposeLaws.{Putting}
use Rattle.orders.proofs.transposed.put_shared.Given as goal

abbrev pub invariant-loop-above : goal.invariant-loop-above
invariant-loop-above l = record {
  long : length l.out ≡ concept_width;
  put : Putting (Has l.holders.0) l.fn.members.0 l.above-iterator.rest.0 (concept_marks l.initial.out) (concept_marks l.out);
}
