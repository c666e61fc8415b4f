use Rattle.sift.specs.Excludes.{meant}
use Rattle.sift.proofs.Sifting.{Sifting}
use Rattle.sift.proofs.sift.Given as goal

abbrev pub invariant-loop-k : goal.invariant-loop-k
invariant-loop-k l = Sifting (meant l.collection) l.pairs l.order l.kept l.k l.facts l.held
