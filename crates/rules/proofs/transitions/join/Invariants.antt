-- The rows of the states below s.
use Rattle.rules.specs.Transitions.{Gains, Below}
use Rattle.rules.proofs.transitions.join.Given as goal

abbrev pub invariant-loop-s : goal.invariant-loop-s
invariant-loop-s l = Gains (Below l.relation l.s) l.fn.into l.into
