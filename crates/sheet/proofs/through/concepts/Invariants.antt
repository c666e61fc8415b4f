-- The rows of the states that are taken.
use Rattle.sets.proofs.Gathering.{Over}
use Rattle.sheet.specs.Finds.{HasAll}
use Rattle.sheet.proofs.through.concepts.Given as goal

abbrev pub invariant-loop-s : goal.invariant-loop-s
invariant-loop-s l = Over l.fn.from.0 l.s-iterator.rest.0 (λ D. HasAll l.delta D l.all.0)
