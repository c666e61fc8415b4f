-- The rows to the states that are taken.
use Rattle.sets.specs.Relations.{states_at}
use Rattle.sets.proofs.Gathering.{Over}
use Rattle.sheet.specs.Finds.{HasFrom}
use Rattle.sheet.proofs.through.concepts_from.Given as goal

abbrev pub invariant-loop-t : goal.invariant-loop-t
invariant-loop-t l = Over (states_at l.delta.pairs l.s) l.t-iterator.rest.0 (λ D. HasFrom l.delta.rows D l.s l.all.0)
