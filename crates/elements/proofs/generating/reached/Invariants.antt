-- `reached`: the set so far, and those of it that are still to be followed; a turn takes one of these, or the set grows.
use Rattle.std.proofs.Common.{◌+◌, ◌-◌, ◌*◌, ◌^◌}
use Rattle.sets.specs.Rows.{concept_marks}
use Rattle.elements.proofs.ReachLaws.{Reaching}
use Rattle.elements.proofs.generating.reached.Given as goal

abbrev pub invariant-loop-role : goal.invariant-loop-role
invariant-loop-role l = Reaching l.fn.seeds.0 (concept_marks l.order.above) l.generating.0 l.waiting.0

abbrev pub decreases-loop-role : goal.decreases-loop-role
decreases-loop-role l = (2 ^ 64 - l.generating.0) * 2 ^ 64 + l.waiting.0
