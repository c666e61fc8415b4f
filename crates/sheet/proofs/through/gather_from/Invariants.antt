-- The rows to the states that are taken are gathered.
use Rattle.laws.specs.Loops.{Witness}
use Rattle.sets.specs.Relations.{states_at}
use Rattle.rules.specs.Transitions.{GainsEach}
use Rattle.sets.proofs.Gathering.{Over}
use Rattle.sheet.specs.Finds.{RowLoop}
use Rattle.sheet.proofs.through.gather_from.Given as goal

abbrev pub invariant-loop-t : goal.invariant-loop-t
invariant-loop-t l = Over (states_at l.delta.pairs l.s) l.t-iterator.rest.0
    (λ D. GainsEach (λ R a b. Witness D (λ t. RowLoop l.delta.rows l.s t R a b)) l.fn.loops l.loops)
