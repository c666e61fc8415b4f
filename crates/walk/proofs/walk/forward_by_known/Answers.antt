-- `forward_by_known`: what the guide finds, since what it is lent is true of walks forward.
use Rattle.walk.proofs.KnownLaws.{known_lent, lent_some}
use Rattle.walk.proofs.WalkLaws.{walked_forward}
use Rattle.walk.proofs.walk.forward_by_known.Goals as goal

pub walk_by-requires : goal.walk_by-requires
walk_by-requires c = lent_some _ _ (known_lent _ _ _ c.requires.forward _ c.requires.known)

pub returns : goal.returns
returns c = walked_forward _ _ _ _ c.args.strides.now.covers _ _ _ _ c.requires.forward c.walk_by.ensures
