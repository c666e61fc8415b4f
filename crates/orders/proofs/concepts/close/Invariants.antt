-- `close`: the rows are closed through each number below k.
use Rattle.laws.specs.Warshall.{Done}
use Rattle.sets.specs.Rows.{concept_marks}
use Rattle.sets.specs.Bits.{concept_width}
use Rattle.orders.proofs.concepts.close.Given as goal

abbrev pub invariant-loop-k : goal.invariant-loop-k
invariant-loop-k l = Done concept_width (concept_marks l.fn.rows) (concept_marks l.rows) l.k
