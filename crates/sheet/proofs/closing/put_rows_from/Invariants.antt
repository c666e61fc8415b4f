-- The rows to the states below t are put.
use Rattle.std.specs.Prelude.{◌<◌}
use Rattle.rules.specs.Rows.{Gets}
use Rattle.sheet.specs.Pairs.{By, RowAt}
use Rattle.sheet.proofs.closing.put_rows_from.Given as goal

abbrev pub invariant-loop-t : goal.invariant-loop-t
invariant-loop-t l = Gets (By (λ i. i < l.t) (RowAt l.rows l.s)) l.fn.candidates.rows l.candidates.rows
