-- The roles that are taken are gone through, and the trips put last are among the candidates.
use Rattle.rules.specs.Rows.{Gets}
use Rattle.sets.proofs.Gathering.{Over}
use Rattle.sheet.specs.Pairs.{By}
use Rattle.sheet.specs.Finds.{ThroughEdges, HasTrips}
use Rattle.sheet.proofs.through.through_roles.Given as goal

abbrev pub invariant-loop-role : goal.invariant-loop-role
invariant-loop-role l = record {
  put : Over l.fn.roles.0 l.role-iterator.rest.0
      (λ D. Gets (By D (ThroughEdges l.loops l.rows)) l.fn.candidates.rows l.candidates.rows);
  last : HasTrips l.last.loops l.last.edge l.candidates.rows;
}
