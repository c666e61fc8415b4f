-- `walk`: no node is behind at the end.
use Rattle.walk.proofs.SweepLaws.{walked}
use Rattle.walk.proofs.multi.MultiWalk.walk.Goals as goal

pub returns : goal.returns
returns c = walked _ _ _ _ _ _ c.are_rows.ensures c.begin.ensures c.exhaust_all.ensures
