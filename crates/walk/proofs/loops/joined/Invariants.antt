-- `joined`: what the concepts taken give is in.
use Rattle.sets.proofs.Gathering.{Over}
use Rattle.walk.specs.LoopParts.{Gives}
use Rattle.walk.proofs.loops.joined.Given as goal

abbrev pub invariant-loop-concept : goal.invariant-loop-concept
invariant-loop-concept l = Over l.fn.concepts.0 l.concept-iterator.rest.0 (λ D. Gives D l.shared l.by_concept l.out)
