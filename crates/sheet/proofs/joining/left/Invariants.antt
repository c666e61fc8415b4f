-- The states that are taken are joined.
use Rattle.rules.specs.Rows.{Gets}
use Rattle.sets.proofs.Gathering.{Over}
use Rattle.sets.specs.Relations.{states_at, pair}
use Rattle.sheet.specs.Pairs.{By}
use Rattle.sheet.specs.Finds.{Join}
use Rattle.sheet.proofs.joining.left.Given as goal

abbrev pub invariant-loop-t : goal.invariant-loop-t
invariant-loop-t l = Over (states_at l.sheet.pairs l.u) l.t-iterator.rest.0
    (λ D. Gets (By D (λ t. Join l.sheet.rows l.row.0 (pair l.s t) (pair l.u t))) l.fn.candidates.rows l.candidates.rows)
