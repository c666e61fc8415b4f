use Rattle.std.proofs.Common.{◌-◌, length}
use Rattle.std.specs.Io.KnownBytes.{Keeps, prepend_known}
use Rattle.streams.proofs.window.Window.fill_from.Given as goal

abbrev pub invariant-reads : goal.invariant-reads
invariant-reads g l =
    Keeps (prepend_known l.fn.self (g.S.Source.remaining l.fn.source)) (prepend_known l.self (g.S.Source.remaining l.source))

abbrev pub decreases-reads : goal.decreases-reads
decreases-reads g l = l.fn.count - length l.self
