-- `by_marks`: what marks to the states that are taken give.
use Rattle.sets.specs.Bits.{IsSetOf}
use Rattle.walk.specs.CoReachable.{ByMark}
use Rattle.sets.proofs.Gathering.{Over}
use Rattle.walk.proofs.coreachable.by_marks.Given as goal

abbrev pub invariant-loop-t : goal.invariant-loop-t
invariant-loop-t l = Over l.fn.alive.0 l.t-iterator.rest.0
    (λ D. IsSetOf (ByMark l.paths.sheet.now l.paths.finals.0 l.now l.s D) l.out.0)
