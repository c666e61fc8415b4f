-- `gathered`: the set has what the rows below a have.
use Rattle.sets.specs.Rows.{concept_marks}
use Rattle.elements.specs.Concepts.{Gathers}
use Rattle.elements.proofs.generating.gathered.Given as goal

abbrev pub invariant-loop-row : goal.invariant-loop-row
invariant-loop-row l = Gathers l.row-index (concept_marks l.rows) l.all.0
