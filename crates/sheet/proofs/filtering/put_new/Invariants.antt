-- The states that are taken have their new marks.
use Rattle.rules.specs.Rows.{Gets}
use Rattle.sets.proofs.Gathering.{Over}
use Rattle.sheet.specs.Pairs.{By}
use Rattle.sheet.specs.Finds.{NewFrom}
use Rattle.sheet.proofs.filtering.put_new.Given as goal

abbrev pub invariant-loop-s : goal.invariant-loop-s
invariant-loop-s l = Over l.initial.s-iterator.rest.0 l.s-iterator.rest.0
    (λ D. Gets (By D (NewFrom l.rows l.sheet.rows l.candidates)) l.fn.delta.rows l.delta.rows)
