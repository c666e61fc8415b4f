-- `put_row` meets its contract: the row of the left side is put beside the rows of the right sides.
use Rattle.sift.proofs.ApartLaws.{row_put}
use Rattle.sets.specs.Rows.{concept_marks}
use Rattle.sift.proofs.excluded.put_row.Goals as goal

pub returns : goal.returns
returns c =
    row_put c.args.below.now c.args.i c.args.rights.0 (concept_marks c.args.apart.now) (concept_marks c.put_both.new.rows) c.joined.result.0
    c.joined.ensures c.put_both.ensures
