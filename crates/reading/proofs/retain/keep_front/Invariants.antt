-- The marked ones so far at the front, and those still to come where they stood.
use Rattle.reading.proofs.RetainLaws.{KeptSoFar}
use Rattle.reading.proofs.retain.keep_front.Given as goal

abbrev pub invariant-loop-i : goal.invariant-loop-i
invariant-loop-i g l = KeptSoFar l.initial.items l.marks l.i l.kept l.items
