-- From nowhere.
use Rattle.kinds.specs.Kinds.{most_states}
use Rattle.rules.proofs.TransitionLaws.{joined_is}
use Rattle.rules.proofs.transitions.unite.Goals as goal

pub returns : goal.returns
returns c = joined_is _ _ most_states _ c.join_all.ensures
