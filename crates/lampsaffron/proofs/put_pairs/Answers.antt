-- `put_pairs`: one pair more.
use Rattle.std.proofs.Common.{rules, arith}
use Rattle.lampsaffron.proofs.Told.{pairs_none, pairs_more, pairs_most}
use Rattle.lampsaffron.proofs.put_pairs.Goals as goal

pub loop-k-init : goal.loop-k-init
loop-k-init c = pairs_none _ _ (search rules)

pub loop-k-preserved : goal.loop-k-preserved
loop-k-preserved c = pairs_more _ _ _ c.loop-k.invariant (omega arith)

pub returns : goal.returns
returns c = pairs_most _ _ _ _ (omega arith) c.loop-k.invariant
