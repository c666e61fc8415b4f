-- The states that are taken are gone through.
use Rattle.rules.specs.Rows.{Gets}
use Rattle.sets.proofs.Gathering.{Over}
use Rattle.sheet.specs.Pairs.{By}
use Rattle.sheet.specs.Finds.{Right}
use Rattle.sheet.proofs.joining.rights.Given as goal

abbrev pub invariant-loop-r : goal.invariant-loop-r
invariant-loop-r l = Over l.initial.r-iterator.rest.0 l.r-iterator.rest.0
    (λ D. Gets (By D (Right l.delta l.sheet l.s)) l.fn.candidates.rows l.candidates.rows)
