-- The inverse of a role that has a row has one.
use Rattle.std.proofs.Common.{arith}
use Rattle.rules.proofs.MadeLaws.{back_is, edge_is}
use Rattle.rules.proofs.made.put_edge.Goals as goal

pub bounds-transitions-up : goal.bounds-transitions-up
bounds-transitions-up c = let e = back_is _ _ c.inverse-back.ensures in omega (arith, e, c.requires)

pub returns : goal.returns
returns c = let e = back_is _ _ c.inverse-back.ensures in edge_is _ _ _ _ (omega (arith, e, c.requires))
