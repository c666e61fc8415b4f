-- `along`: all that are marked, or those from which the rows lead on.
use Rattle.walk.proofs.CoReachableLaws.{along_all, along_some, refuted}
use Rattle.walk.proofs.coreachable.along.Goals as goal

pub returns-then-contains : goal.returns-then-contains
returns-then-contains c = along_all _ _ _ _ _ c.requires.from c.requires.to (c.contains.ensures.0 c.if-contains.true)

pub returns : goal.returns
returns c = along_some _ _ _ _ _ c.requires.from c.requires.to _ (refuted c.contains.ensures c.if-contains.false) c.intersection.ensures
