-- `break_at_children`: by none of the roles that are past an element and its child have both sides of an exclusion.
use Rattle.sets.specs.Rows.{role_marks}
use Rattle.clash.specs.Clashes.{ChildClashes}
use Rattle.clash.proofs.SeekLaws.{Seeking}
use Rattle.clash.proofs.roles.RoleConflicts.break_at_children.Given as goal

abbrev pub invariant-loop-role : goal.invariant-loop-role
invariant-loop-role l = Seeking
    (ChildClashes l.self.exclusions.numbers.now (role_marks l.self.roles.now.above)) l.fn.generating.0 l.role-iterator.rest.0
