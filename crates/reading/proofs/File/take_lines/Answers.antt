-- No line is taken at first, or at all where a list has begun, and each turn takes one more.
use Rattle.std.proofs.Common.{arith}
use Rattle.reading.specs.Front.{none}
use Rattle.reading.proofs.Fronts.{no_lines, left, line_more}
use Rattle.reading.proofs.File.take_lines.Goals as goal

pub returns-then-not-is_open : goal.returns-then-not-is_open
returns-then-not-is_open c = none

pub lines-init : goal.lines-init
lines-init c = no_lines (c.is_open.ensures.0 c.if-not-is_open.false)

pub lines-preserved : goal.lines-preserved
lines-preserved c = line_more c.lines.invariant (rw (left c.lines.at c.args.held.now) at c.take_front-n.ensures) (omega arith)
