-- `put_pairs`: the pairs below k are put in.
use Rattle.lampsaffron.specs.Row.{HasPairs}
use Rattle.lampsaffron.proofs.put_pairs.Given as goal

abbrev pub invariant-loop-k : goal.invariant-loop-k
invariant-loop-k l = HasPairs l.pairs l.row l.k
