-- The rows of the states that are taken are joined.
use Rattle.rules.specs.Rows.{Gets}
use Rattle.sets.proofs.Gathering.{Over}
use Rattle.sheet.specs.Pairs.{By}
use Rattle.sheet.specs.Finds.{JoinedFrom}
use Rattle.sheet.proofs.joining.joins.Given as goal

abbrev pub invariant-loop-s : goal.invariant-loop-s
invariant-loop-s l = Over l.fn.from.0 l.s-iterator.rest.0
    (λ D. Gets (By D (JoinedFrom l.delta l.sheet)) l.fn.candidates.rows l.candidates.rows)
