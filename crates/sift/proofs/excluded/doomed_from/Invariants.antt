-- `doomed_from`: the set so far has doomed roles alone; each turn but the last makes it larger.
use Rattle.std.proofs.Common.{◌-◌, ◌^◌}
use Rattle.sets.specs.Rows.{concept_marks}
use Rattle.sift.proofs.DoomedLaws.{Growing}
use Rattle.sift.proofs.excluded.doomed_from.Given as goal

abbrev pub invariant-loop-more : goal.invariant-loop-more
invariant-loop-more l = Growing (concept_marks l.order.above) l.fn.breaking.0 l.doomed.0

abbrev pub decreases-loop-more : goal.decreases-loop-more
decreases-loop-more l = 2 ^ 64 - l.doomed.0
