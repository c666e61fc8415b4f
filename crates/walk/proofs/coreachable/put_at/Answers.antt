-- `put_at`: nothing where the state has no set, else a union.
use Rattle.std.proofs.Common.{arith, rules}
use Rattle.walk.proofs.CoReachableLaws.{adds_none, put_one}
use Rattle.walk.proofs.coreachable.put_at.Goals as goal

pub returns-then-s-ge-MOST : goal.returns-then-s-ge-MOST
returns-then-s-ge-MOST c = adds_none (λ u B h p. let e = p.0 in absurd (omega (arith, c.if-s-ge-MOST.true)))

pub returns : goal.returns
returns c = put_one _ _ _ _ (search rules) c.union.ensures (search rules)
