-- `joined`: the set has what the rows of the members that are past have.
use Rattle.sets.specs.Rows.{concept_marks}
use Rattle.sift.proofs.ApartLaws.{Joining}
use Rattle.sift.proofs.excluded.joined.Given as goal

abbrev pub invariant-loop-member : goal.invariant-loop-member
invariant-loop-member l = Joining (concept_marks l.rows) l.fn.members.0 l.member-iterator.rest.0 l.out.0
