-- `image`: the states taken have their successors in.
use Rattle.laws.specs.Loops.{Witness}
use Rattle.sets.specs.Bits.{IsSetOf}
use Rattle.sets.specs.Relations.{Relates}
use Rattle.sets.proofs.Gathering.{Over}
use Rattle.sets.proofs.relations.image.Given as goal

abbrev pub invariant-loop-s : goal.invariant-loop-s
invariant-loop-s l = Over l.fn.from.0 l.s-iterator.rest.0 (λ D. IsSetOf (λ t. Witness D (λ s. Relates l.relation s t)) l.out.0)
