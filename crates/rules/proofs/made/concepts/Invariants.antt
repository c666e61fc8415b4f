-- The valid concepts below k.
use Rattle.rules.specs.Made.{IsConcepts}
use Rattle.rules.proofs.made.concepts.Given as goal

abbrev pub invariant-loop-k : goal.invariant-loop-k
invariant-loop-k l = IsConcepts l.counts l.k l.set.0
