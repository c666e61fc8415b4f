-- The rows to the states that are taken are joined.
use Rattle.rules.specs.Rows.{Gets}
use Rattle.sets.proofs.Gathering.{Over}
use Rattle.sets.specs.Relations.{states_at, concepts_at, pair}
use Rattle.sheet.specs.Pairs.{By}
use Rattle.sheet.specs.Finds.{Join}
use Rattle.sheet.proofs.joining.right.Given as goal

abbrev pub invariant-loop-u : goal.invariant-loop-u
invariant-loop-u l = Over (states_at l.delta.pairs l.s) l.u-iterator.rest.0
    (λ D. Gets (By D (λ u. Join l.delta.rows (concepts_at l.sheet.rows (pair l.r l.s)) (pair l.r u) (pair l.s u)))
    l.fn.candidates.rows l.candidates.rows)
