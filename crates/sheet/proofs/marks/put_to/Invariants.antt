-- The states that are taken have the row.
use Rattle.rules.specs.Rows.{Gets}
use Rattle.sets.proofs.Gathering.{Over}
use Rattle.sheet.specs.Pairs.{By, PutTo}
use Rattle.sheet.proofs.marks.put_to.Given as goal

abbrev pub invariant-loop-t : goal.invariant-loop-t
invariant-loop-t l = Over l.fn.to.0 l.t-iterator.rest.0 (λ D. Gets (By D (PutTo l.row.0 l.s)) l.fn.rows l.rows)
