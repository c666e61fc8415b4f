-- `forward`: what the guide finds.
use Rattle.walk.proofs.KnownLaws.{lent_none}
use Rattle.walk.proofs.WalkLaws.{walked_forward}
use Rattle.walk.proofs.walk.forward.Goals as goal

pub walk_by-requires : goal.walk_by-requires
walk_by-requires c = lent_none _

pub returns : goal.returns
returns c = walked_forward _ _ _ _ c.args.strides.now.covers _ _ _ _ c.requires c.walk_by.ensures
