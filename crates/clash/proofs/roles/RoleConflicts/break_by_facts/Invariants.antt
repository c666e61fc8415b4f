-- `break_by_facts`: the edges of the facts before the next one are tried.
use Rattle.sets.specs.Rows.{role_marks}
use Rattle.clash.specs.Clashes.{HasMade}
use Rattle.clash.specs.Tried.{Tried}
use Rattle.clash.proofs.roles.RoleConflicts.break_by_facts.Given as goal

abbrev pub invariant-loop-k : goal.invariant-loop-k
invariant-loop-k l = Tried l.self.exclusions.numbers.now (role_marks l.self.roles.now.above)
    (HasMade l.facts.numbers.now l.k l.among.0 l.a.0) l.met
