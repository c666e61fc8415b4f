-- Lane by lane.
use Rattle.frames.proofs.Lanes.{common_lanes}
use Rattle.frames.proofs.pairs.in_common.Goals as goal

pub returns : goal.returns
returns c = common_lanes c.args.high c.args.low c.fits-high.0 c.fits-low.0
