-- `with_loops`: at the loop's head all has only states that loops reach from m; it grows until its image adds none.
use Rattle.std.proofs.Common.{◌-◌, ◌^◌}
use Rattle.sets.specs.Bits.{state_width}
use Rattle.sets.specs.Relations.{relation_at}
use Rattle.walk.specs.Directions.{Led}
use Rattle.walk.proofs.ClosureLaws.{ClosurePart}
use Rattle.walk.proofs.walk.with_loops.Given as goal

abbrev pub invariant-loop-more : goal.invariant-loop-more
invariant-loop-more l = ClosurePart (Led l.guide.directed.now.direction (relation_at l.guide.strides.loops.now.rows l.a)) l.fn.m.0 l.all.0

abbrev pub decreases-loop-more : goal.decreases-loop-more
decreases-loop-more l = 2 ^ state_width - l.all.0
