-- `meet` meets its contract: a number in both sets is below the width of a set.
use Rattle.std.proofs.Common.{rules}
use Rattle.clash.proofs.RoleLaws.{are_met}
use Rattle.sift.proofs.excluded.meet.Goals as goal

pub returns : goal.returns
returns c = are_met c.args.x.0 c.args.y.0 c.intersects.result c.intersects.ensures (search rules)
