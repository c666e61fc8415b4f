-- `barred_by`: the set has those of the concepts below i that nobody may have.
use Rattle.sets.specs.Rows.{concept_marks}
use Rattle.sift.specs.Exclusions.{IsBarred}
use Rattle.sift.proofs.GatherLaws.{Gathered}
use Rattle.sift.proofs.excluded.barred_by.Given as goal

abbrev pub invariant-loop-i : goal.invariant-loop-i
invariant-loop-i l = Gathered (IsBarred (concept_marks l.order.above) (concept_marks l.apart) l.doomed.0) l.i l.barred.0
