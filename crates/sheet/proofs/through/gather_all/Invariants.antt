-- The rows of the states that are taken are gathered.
use Rattle.laws.specs.Loops.{Witness}
use Rattle.rules.specs.Transitions.{GainsEach}
use Rattle.sets.proofs.Gathering.{Over}
use Rattle.sheet.specs.Finds.{LoopsFrom}
use Rattle.sheet.proofs.through.gather_all.Given as goal

abbrev pub invariant-loop-s : goal.invariant-loop-s
invariant-loop-s l = Over l.fn.from.0 l.s-iterator.rest.0
    (λ D. GainsEach (λ R a b. Witness D (λ s. LoopsFrom l.delta s R a b)) l.fn.loops l.loops)
