use Rattle.sift.proofs.Pairing.{Pairing}
use Rattle.sift.proofs.pairs.pairs_of.Given as goal

abbrev pub invariant-loop-fact : goal.invariant-loop-fact
invariant-loop-fact l = Pairing l.fn.facts.numbers l.fact-iterator.table.numbers l.fact-iterator.next l.room l.used
