-- By the inverse role.
use Rattle.rules.proofs.MadeLaws.{edges_to_is}
use Rattle.rules.proofs.made.edges_to.Goals as goal

pub returns : goal.returns
returns c = edges_to_is _ _ _ c.requires c.inverse.ensures c.only.ensures
