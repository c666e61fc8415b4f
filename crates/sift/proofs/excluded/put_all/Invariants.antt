-- `put_all`: the set is in the rows of the members that are past.
use Rattle.std.proofs.Common.{◌≡◌, length}
use Rattle.sets.specs.Bits.{concept_width, Has}
use Rattle.sets.specs.Rows.{concept_marks}
use Rattle.orders.proofs.TransposeLaws.{Putting}
use Rattle.sift.proofs.excluded.put_all.Given as goal

abbrev pub invariant-loop-member : goal.invariant-loop-member
invariant-loop-member l = record {
  long : length l.rows ≡ concept_width;
  put : Putting (Has l.all.0) l.fn.members.0 l.member-iterator.rest.0 (concept_marks l.initial.rows) (concept_marks l.rows);
}
