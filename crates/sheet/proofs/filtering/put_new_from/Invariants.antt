-- The states that are taken have their new marks.
use Rattle.rules.specs.Rows.{Gets}
use Rattle.sets.proofs.Gathering.{Over}
use Rattle.sets.specs.Relations.{states_at}
use Rattle.sheet.specs.Pairs.{By}
use Rattle.sheet.specs.Finds.{PutNew}
use Rattle.sheet.proofs.filtering.put_new_from.Given as goal

abbrev pub invariant-loop-t : goal.invariant-loop-t
invariant-loop-t l = Over (states_at l.candidates.pairs l.s) l.t-iterator.rest.0
    (λ D. Gets (By D (PutNew l.rows l.sheet.rows l.candidates.rows l.s)) l.fn.delta.rows l.delta.rows)
