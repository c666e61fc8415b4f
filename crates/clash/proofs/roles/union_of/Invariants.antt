-- `union_of`: the set is the union of the rows before the next one.
use Rattle.sets.specs.Rows.{role_marks}
use Rattle.clash.specs.Conflicts.{IsUnionBelow}
use Rattle.clash.proofs.roles.union_of.Given as goal

abbrev pub invariant-loop-row : goal.invariant-loop-row
invariant-loop-row l = IsUnionBelow (role_marks l.rows) l.row-index l.out.0
