-- The rows of the states that are taken are added.
use Rattle.rules.specs.Rows.{Gets}
use Rattle.sets.proofs.Gathering.{Over}
use Rattle.sheet.specs.Pairs.{By}
use Rattle.sheet.specs.Finds.{RowsFrom}
use Rattle.sheet.proofs.closing.add.Given as goal

abbrev pub invariant-loop-s : goal.invariant-loop-s
invariant-loop-s l = Over l.fn.from.0 l.s-iterator.rest.0 (λ D. Gets (By D (RowsFrom l.delta)) l.fn.sheet.rows l.sheet.rows)
