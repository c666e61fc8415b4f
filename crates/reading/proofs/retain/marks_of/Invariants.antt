-- The marks so far.
use Rattle.reading.specs.Records.{is_typed}
use Rattle.reading.proofs.RetainLaws.{MarksSoFar}
use Rattle.reading.proofs.retain.marks_of.Given as goal

abbrev pub invariant-loop-i : goal.invariant-loop-i
invariant-loop-i l = MarksSoFar (is_typed l.asked) l.typed l.marks l.initial.row l.i l.found l.row
