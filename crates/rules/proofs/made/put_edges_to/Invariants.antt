-- The roles below r.
use Rattle.laws.specs.Fill.{Filling}
use Rattle.sets.specs.Rows.{no_roles}
use Rattle.rules.specs.Rows.{most_edges}
use Rattle.rules.proofs.MadeLaws.{EdgesTo}
use Rattle.rules.proofs.made.put_edges_to.Given as goal

abbrev pub invariant-loop-r : goal.invariant-loop-r
invariant-loop-r l = Filling EdgesTo no_roles most_edges l.fn.edges l.edges l.r
