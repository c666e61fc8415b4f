-- `promises` meets its contract: the row meets the set, raised to the concepts ∃.
use Rattle.std.proofs.Common.{rules}
use Rattle.sift.proofs.DoomedLaws.{promises_is}
use Rattle.sift.proofs.excluded.promises.Goals as goal

pub returns : goal.returns
returns c =
    promises_is c.args.row.0 c.args.set.0 c.exists.result.0 c.intersects.result c.exists.ensures (search rules) c.intersects.ensures
