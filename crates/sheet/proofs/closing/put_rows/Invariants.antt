-- The rows of the states below s are put.
use Rattle.std.specs.Prelude.{◌<◌}
use Rattle.rules.specs.Rows.{Gets}
use Rattle.sheet.specs.Pairs.{By, RowAt, ByState}
use Rattle.sheet.proofs.closing.put_rows.Given as goal

abbrev pub invariant-loop-s : goal.invariant-loop-s
invariant-loop-s l = Gets (By (λ i. i < l.s) (λ s. ByState (RowAt l.rows s))) l.fn.candidates.rows l.candidates.rows
