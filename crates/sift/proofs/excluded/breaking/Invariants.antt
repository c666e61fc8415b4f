-- `breaking`: the set has those of the roles below r by which every child breaks an exclusion.
use Rattle.sets.specs.Rows.{concept_marks, role_marks}
use Rattle.sift.specs.Exclusions.{Breaks}
use Rattle.sift.proofs.GatherLaws.{Gathered}
use Rattle.sift.proofs.excluded.breaking.Given as goal

abbrev pub invariant-loop-r : goal.invariant-loop-r
invariant-loop-r l = Gathered (Breaks (concept_marks l.apart) (role_marks l.conflicts)) l.r l.breaking.0
