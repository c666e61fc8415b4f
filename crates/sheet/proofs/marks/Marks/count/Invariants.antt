-- The rows of the states below s are counted.
use Rattle.std.specs.Prelude.{◌≡◌, ◌*◌, ◌≤◌}
use Rattle.kinds.specs.Kinds.{most_states}
use Rattle.rules.specs.Rows.{most_concepts}
use Rattle.sheet.specs.Pairs.{total}
use Rattle.sheet.proofs.marks.Marks.count.Given as goal

abbrev pub invariant-loop-s : goal.invariant-loop-s
invariant-loop-s l = record { is : l.n ≡ total l.self.rows l.s; small : l.n ≤ most_states * most_concepts * l.s }
