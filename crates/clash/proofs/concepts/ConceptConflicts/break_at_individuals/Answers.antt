-- `break_at_individuals`: past the last individual there is none.
use Rattle.std.proofs.Common.{arith}
use Rattle.clash.proofs.SeekLaws.{past_end}
use Rattle.clash.proofs.concepts.ConceptConflicts.break_at_individuals.Goals as goal

pub returns : goal.returns
returns c = past_end _ _ _ c.loop-row.invariant (omega (arith, c.loop-row-test.false))
