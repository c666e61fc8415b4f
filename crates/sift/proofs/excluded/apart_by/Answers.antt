-- `apart_by` meets its contract: with no exclusion no concept is apart from any.
use Rattle.sets.specs.Rows.{concept_marks}
use Rattle.sift.proofs.ApartLaws.{apart_none}
use Rattle.sift.proofs.excluded.apart_by.Goals as goal

pub returns-then-is_empty : goal.returns-then-is_empty
returns-then-is_empty c =
    apart_none c.args.exclusions.numbers.now (concept_marks c.args.order.now.above) (c.is_empty.ensures.0 c.if-is_empty.true)
