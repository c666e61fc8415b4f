-- What is found from the states that are taken.
use Rattle.rules.specs.Rows.{Gets}
use Rattle.sets.proofs.Gathering.{Over}
use Rattle.sheet.specs.Pairs.{By}
use Rattle.sheet.specs.Finds.{TripsFrom}
use Rattle.sheet.proofs.through.all_trips.Given as goal

abbrev pub invariant-loop-s : goal.invariant-loop-s
invariant-loop-s l = Over l.initial.s-iterator.rest.0 l.s-iterator.rest.0
    (λ D. Gets (By D (TripsFrom l.loops l.edge)) l.fn.candidates.rows l.candidates.rows)
