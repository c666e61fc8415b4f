-- The rows of the states that are taken are added.
use Rattle.rules.specs.Rows.{Gets}
use Rattle.sets.proofs.Gathering.{Over}
use Rattle.sets.specs.Relations.{states_at}
use Rattle.sheet.specs.Pairs.{By, RowAt}
use Rattle.sheet.proofs.closing.add_from.Given as goal

abbrev pub invariant-loop-t : goal.invariant-loop-t
invariant-loop-t l = Over (states_at l.delta.pairs l.s) l.t-iterator.rest.0
    (λ D. Gets (By D (RowAt l.delta.rows l.s)) l.fn.sheet.rows l.sheet.rows)
