use Rattle.std.proofs.Common.{◌+◌, ◌-◌, length}
use Rattle.streams.specs.declared.TheConstants.{LINE}
use Rattle.std.specs.Io.KnownBytes.{Keeps, prepend_known}
use Rattle.streams.proofs.lines.next_line.Given as goal

abbrev pub invariant-reads : goal.invariant-reads
invariant-reads g l =
    Keeps (prepend_known l.fn.window (g.S.Source.remaining l.fn.source)) (prepend_known l.window (g.S.Source.remaining l.source))

abbrev pub decreases-reads : goal.decreases-reads
decreases-reads g l = LINE + 1 - length l.window
