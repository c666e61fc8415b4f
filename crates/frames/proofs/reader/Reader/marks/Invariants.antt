-- The marks so far, and how many bytes are left.
use Rattle.std.proofs.Common.{◌-◌, ◌/◌, length}
use Rattle.frames.proofs.ReaderLaws.{MarksSoFar}
use Rattle.frames.proofs.reader.Reader.marks.Given as goal

abbrev pub invariant-marks : goal.invariant-marks
invariant-marks l = MarksSoFar l.fn.self l.self l.marks

abbrev pub decreases-marks : goal.decreases-marks
decreases-marks l = length l.self.line.now / 2 - l.self.at
