-- `backward`: what the guide finds.
use Rattle.walk.proofs.BackLaws.{walked_backward}
use Rattle.walk.proofs.KnownLaws.{lent_none}
use Rattle.walk.proofs.walk.backward.Goals as goal

pub walk_by-requires : goal.walk_by-requires
walk_by-requires c = lent_none _

pub returns : goal.returns
returns c = walked_backward _ _ c.requires _ _ _ c.walk_by.ensures
