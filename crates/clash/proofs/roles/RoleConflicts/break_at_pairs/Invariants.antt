-- `break_at_pairs`: none of the first a individuals begins a pair with both sides of an exclusion.
use Rattle.sets.specs.Rows.{role_marks}
use Rattle.edges.specs.Edges.{HasEdge}
use Rattle.clash.specs.Clashes.{PairClashes}
use Rattle.clash.proofs.SeekLaws.{Past}
use Rattle.clash.proofs.roles.RoleConflicts.break_at_pairs.Given as goal

abbrev pub invariant-loop-a : goal.invariant-loop-a
invariant-loop-a l = Past
    (PairClashes l.self.exclusions.numbers.now (HasEdge l.edges.facts.numbers.now l.edges.roles.0) (role_marks l.self.roles.now.above)) l.a
