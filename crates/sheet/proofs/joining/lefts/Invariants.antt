-- The rows to the states that are taken are joined.
use Rattle.rules.specs.Rows.{Gets}
use Rattle.sets.proofs.Gathering.{Over}
use Rattle.sets.specs.Relations.{states_at, concepts_at, pair}
use Rattle.sheet.specs.Pairs.{By}
use Rattle.sheet.specs.Finds.{Left}
use Rattle.sheet.proofs.joining.lefts.Given as goal

abbrev pub invariant-loop-u : goal.invariant-loop-u
invariant-loop-u l = Over (states_at l.delta.pairs l.s) l.u-iterator.rest.0
    (λ D. Gets (By D (λ u. Left l.sheet (concepts_at l.delta.rows (pair l.s u)) l.s u)) l.fn.candidates.rows l.candidates.rows)
