-- The declared states below s.
use Rattle.rules.specs.Made.{IsStates}
use Rattle.rules.proofs.made.states.Given as goal

abbrev pub invariant-loop-s : goal.invariant-loop-s
invariant-loop-s l = IsStates l.counts l.s l.set.0
