-- The roles below r.
use Rattle.laws.specs.Fill.{Filling}
use Rattle.rules.specs.Rows.{most_edges, no_edge}
use Rattle.rules.specs.Made.{IsEdge}
use Rattle.rules.proofs.made.put_edges.Given as goal

abbrev pub invariant-loop-r : goal.invariant-loop-r
invariant-loop-r l = Filling (IsEdge l.below l.transitions) no_edge most_edges l.fn.edges l.edges l.r
