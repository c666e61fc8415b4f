-- `reflexive`: each (h, h) below i is marked.
use Rattle.laws.specs.Gains.{OneOf}
use Rattle.sets.specs.Rows.{Adds, concept_marks}
use Rattle.orders.specs.Marks.{Own}
use Rattle.sets.specs.Bits.{concept_width}
use Rattle.orders.proofs.concepts.reflexive.Given as goal

abbrev pub invariant-loop-i : goal.invariant-loop-i
invariant-loop-i l = Adds concept_width concept_width (concept_marks l.initial.rows) (OneOf Own l.i) (concept_marks l.rows)
