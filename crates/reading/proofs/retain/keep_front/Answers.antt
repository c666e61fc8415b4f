use Rattle.std.proofs.Common.{arith}
use Rattle.reading.proofs.RetainLaws.{kept-more}
use Rattle.reading.proofs.retain.keep_front.Goals as goal

pub loop-i-preserved : goal.loop-i-preserved
loop-i-preserved g c =
    rw (c.counted-kept.ensures, c.is_marked.ensures)
    (kept-more c.loop-i.invariant c.index-items-i.result (omega arith) c.index-items-i.is)
