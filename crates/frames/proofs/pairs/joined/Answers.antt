-- Lane by lane.
use Rattle.frames.proofs.Lanes.{made_lanes}
use Rattle.frames.proofs.pairs.joined.Goals as goal

pub returns : goal.returns
returns c = made_lanes c.args.high c.args.low c.fits-high.0 c.fits-low.0
