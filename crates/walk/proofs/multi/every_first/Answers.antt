-- `every_first`: one first more.
use Rattle.std.proofs.Common.{arith}
use Rattle.sets.proofs.Laws.{is_only_128}
use Rattle.walk.proofs.StartLaws.{every_more}
use Rattle.walk.proofs.multi.every_first.Goals as goal

pub loop-k-preserved : goal.loop-k-preserved
loop-k-preserved c =
    let l = c.loop-k-test.true in
    let m = c.requires in
    every_more _ _ _ c.loop-k.invariant (is_only_128 c.loop-k.k (omega arith)) (omega arith)
