-- `left_sides`: the set has each concept below i whose row meets the other set.
use Rattle.sets.specs.Rows.{concept_marks}
use Rattle.clash.specs.Conflicts.{Covers}
use Rattle.clash.proofs.concepts.left_sides.Given as goal

abbrev pub invariant-loop-i : goal.invariant-loop-i
invariant-loop-i l = Covers (concept_marks l.rows) l.i l.fn.among.0 l.lefts.0
