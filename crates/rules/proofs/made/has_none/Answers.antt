-- One row more.
use Rattle.std.proofs.Common.{arith}
use Rattle.std.proofs.lemmas.Bool.{OnTrue_from}
use Rattle.rules.proofs.MadeLaws.{unites_more, unites_none}
use Rattle.rules.proofs.made.has_none.Goals as goal

pub loop-row-preserved : goal.loop-row-preserved
loop-row-preserved c = unites_more _ _ _ _ c.loop-row.invariant c.union-all.ensures

pub returns : goal.returns
returns c = OnTrue_from _ _ (λ e. unites_none _ _ _ _ c.told-tests (omega arith) c.loop-row.invariant (c.is_empty.ensures.0 e))
