-- `conflicts_by`: the rows below r are made.
use Rattle.sets.specs.Rows.{role_marks}
use Rattle.sift.proofs.ConflictLaws.{RowsMade}
use Rattle.sift.proofs.excluded.conflicts_by.Given as goal

abbrev pub invariant-loop-r : goal.invariant-loop-r
invariant-loop-r l = RowsMade l.excluded (role_marks l.order.above) l.conflicts l.r
