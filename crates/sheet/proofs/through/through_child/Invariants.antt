-- The edges that are taken are gone through, and those put last are among the candidates.
use Rattle.sets.specs.Relations.{relation_at}
use Rattle.rules.specs.Rows.{Gets}
use Rattle.rules.specs.Rows.{edge}
use Rattle.sets.proofs.Gathering.{Over}
use Rattle.sheet.specs.Pairs.{By, ByState}
use Rattle.sheet.specs.Finds.{TripsFrom, HasTrips}
use Rattle.sheet.proofs.through.through_child.Given as goal

abbrev pub invariant-loop-e : goal.invariant-loop-e
invariant-loop-e l = record {
  put : Over l.initial.e-iterator.rest.0 l.e-iterator.rest.0
      (λ D. Gets (By D (λ e. ByState (TripsFrom (relation_at l.loops l.role.0) (edge l.rows e)))) l.fn.candidates.rows l.candidates.rows);
  last : HasTrips l.last.loops l.last.edge l.candidates.rows;
}
