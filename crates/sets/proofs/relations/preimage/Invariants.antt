-- `preimage`: the states below s are in where they lead to one of the set.
use Rattle.sets.specs.Relations.{Relates, Transposed, LedFrom}
use Rattle.sets.proofs.Gathering.{Gathering}
use Rattle.sets.proofs.relations.preimage.Given as goal

abbrev pub invariant-loop-s : goal.invariant-loop-s
invariant-loop-s l = Gathering (LedFrom (Transposed (Relates l.relation)) l.to.0) l.s l.out.0
