-- `put_pairs`: the pairs below q are put in.
use Rattle.walk.proofs.LoopPartLaws.{PairsPut}
use Rattle.walk.proofs.loops.put_pairs.Given as goal

abbrev pub invariant-loop-q : goal.invariant-loop-q
invariant-loop-q l = PairsPut l.sheet l.shared l.q l.by_concept.rows l.by_concept.useful.0
