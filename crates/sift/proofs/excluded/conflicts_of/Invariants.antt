-- `conflicts_of`: the set has those of the roles below s that are in conflict with the role.
use Rattle.sets.specs.Rows.{role_marks}
use Rattle.sift.specs.Exclusions.{ConflictBy}
use Rattle.sift.proofs.GatherLaws.{Gathered}
use Rattle.sift.proofs.excluded.conflicts_of.Given as goal

abbrev pub invariant-loop-s : goal.invariant-loop-s
invariant-loop-s l = Gathered (ConflictBy (role_marks l.excluded) (role_marks l.order.above) l.role.0) l.s l.conflicts.0
