-- `leading`: the set has those of the roles below r that lead to a role of the other set.
use Rattle.sets.specs.Rows.{concept_marks}
use Rattle.sift.specs.Exclusions.{LeadsTo}
use Rattle.sift.proofs.GatherLaws.{Gathered}
use Rattle.sift.proofs.excluded.leading.Given as goal

abbrev pub invariant-loop-r : goal.invariant-loop-r
invariant-loop-r l = Gathered (LeadsTo (concept_marks l.order.above) l.set.0) l.r l.leading.0
