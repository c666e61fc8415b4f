-- The roles below r have their transitions.
use Rattle.laws.specs.Fill.{Filling}
use Rattle.std.specs.Prelude.{[]}
use Rattle.rules.specs.Rows.{most_edges}
use Rattle.rules.proofs.TransitionLaws.{JoinedOf}
use Rattle.rules.proofs.transitions.fill_transitions.Given as goal

abbrev pub invariant-loop-r : goal.invariant-loop-r
invariant-loop-r l = Filling (JoinedOf l.own l.roles.above) [] most_edges l.fn.into l.into l.r
