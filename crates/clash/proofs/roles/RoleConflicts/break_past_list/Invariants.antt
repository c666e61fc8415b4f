-- `break_past_list`: none of the first a individuals begins a pair with both sides of an exclusion.
use Rattle.sets.specs.Rows.{role_marks}
use Rattle.clash.specs.Clashes.{HasAny, PairClashes}
use Rattle.clash.proofs.SeekLaws.{Past}
use Rattle.clash.proofs.roles.RoleConflicts.break_past_list.Given as goal

abbrev pub invariant-loop-a : goal.invariant-loop-a
invariant-loop-a l = Past
    (PairClashes l.self.exclusions.numbers.now (HasAny l.facts.numbers.now l.among.0) (role_marks l.self.roles.now.above)) l.a
