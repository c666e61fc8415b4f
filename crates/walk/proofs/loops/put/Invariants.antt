-- `put`: the concepts taken relate s to t.
use Rattle.sets.proofs.Gathering.{Over}
use Rattle.walk.specs.LoopParts.{AreRelations, Puts}
use Rattle.walk.proofs.loops.put.Given as goal

abbrev pub invariant-loop-concept : goal.invariant-loop-concept
invariant-loop-concept l = Over l.fn.concepts.0 l.concept-iterator.rest.0 (λ D. AreRelations l.rows × Puts D l.s l.t.0 l.fn.rows l.rows)
