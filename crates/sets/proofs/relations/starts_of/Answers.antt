-- `starts_of`: one row more, and at the end all.
use Rattle.std.proofs.Common.{arith}
use Rattle.sets.specs.Bits.{state_width}
use Rattle.sets.proofs.Gathering.{low_start, starts_more}
use Rattle.sets.proofs.relations.starts_of.Goals as goal

pub loop-s-preserved : goal.loop-s-preserved
loop-s-preserved c = starts_more _ state_width _ _ _ _ c.loop-s.invariant (omega arith) c.is_empty.ensures c.insert_if.ensures

pub returns : goal.returns
returns c = λ s t r. c.loop-s.invariant s t (low_start _ _ s t (omega arith) r) r
