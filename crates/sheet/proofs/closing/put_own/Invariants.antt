-- The states below s have their marks.
use Rattle.std.specs.Prelude.{◌<◌}
use Rattle.rules.specs.Rows.{Gets}
use Rattle.sheet.specs.Pairs.{By}
use Rattle.sheet.specs.Finds.{Own}
use Rattle.sheet.proofs.closing.put_own.Given as goal

abbrev pub invariant-loop-s : goal.invariant-loop-s
invariant-loop-s l = Gets (By (λ i. i < l.s) (Own l.rows)) l.fn.sheet.rows l.sheet.rows
