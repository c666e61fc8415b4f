use Rattle.std.specs.Prelude.{take}
use Rattle.file.specs.Settling.{marks_text}
use Rattle.file.proofs.replies.put_dropped.Given as goal

abbrev pub invariant-loop-i : goal.invariant-loop-i
invariant-loop-i g l = g.T.Taker.takes l.fn.to (marks_text 1 (take l.i l.kept)) l.to
