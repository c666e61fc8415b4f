-- `reflexive` meets its contract: a turn marks one number with itself.
use Rattle.sets.specs.Rows.{concept_marks}
use Rattle.orders.specs.Marks.{Own}
use Rattle.sets.specs.Bits.{concept_width}
use Rattle.sets.proofs.RowLaws.{adds_more}
use Rattle.orders.proofs.RowLaws.{read_number}
use Rattle.orders.proofs.concepts.reflexive.Goals as goal

pub loop-i-preserved : goal.loop-i-preserved
loop-i-preserved c =
    adds_more concept_width concept_width (concept_marks c.args.rows.now) Own c.loop-i.i (concept_marks c.loop-i.rows)
    (concept_marks c.mark_pair.new.rows) c.loop-i.invariant
    (rw (read_number c.read-own.result c.loop-i.i c.read-own.ensures) at c.mark_pair.ensures)
