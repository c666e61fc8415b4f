-- The lines taken so far, and the bytes that are left.
use Rattle.std.proofs.Common.{◌-◌, length}
use Rattle.reading.proofs.Fronts.{LinesSoFar}
use Rattle.reading.proofs.File.take_lines.Given as goal

abbrev pub invariant-lines : goal.invariant-lines
invariant-lines l = LinesSoFar l.fn.self l.held l.at l.self

abbrev pub decreases-lines : goal.decreases-lines
decreases-lines l = length l.held - l.at
