-- `barred_by` meets its contract: a turn puts in one concept, where nobody may have it.
use Rattle.orders.proofs.RowLaws.{read_number}
use Rattle.sift.proofs.GatherLaws.{more}
use Rattle.sets.specs.Bits.{concept_width}
use Rattle.sift.proofs.excluded.barred_by.Goals as goal

pub loop-i-preserved : goal.loop-i-preserved
loop-i-preserved c =
    more _ concept_width c.loop-i.i c.loop-i.barred.0 c.insert_if.new.set.0 c.is_barred-on.result c.loop-i.invariant c.loop-i-test.true
    c.is_barred-on.ensures (rw (read_number c.read.result c.loop-i.i c.read.ensures) at c.insert_if.ensures)
