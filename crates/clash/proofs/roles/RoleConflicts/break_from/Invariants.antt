-- `break_from`: the edges that were given are tried.
use Rattle.std.specs.Prelude.{map, Contains}
use Rattle.sets.specs.Rows.{role_marks}
use Rattle.edges.specs.Packed.{edge_of}
use Rattle.edges.proofs.GivenLaws.{Goes}
use Rattle.clash.specs.Tried.{Tried}
use Rattle.clash.proofs.roles.RoleConflicts.break_from.Given as goal

abbrev pub invariant-loop-edge : goal.invariant-loop-edge
invariant-loop-edge l = record {
  goes : Goes l.edges.facts.numbers.now l.edges.roles.0 l.fn.a.0 l.yielded (map edge_of l.edge-iterator.rest.now);
  tried : Tried l.self.exclusions.numbers.now (role_marks l.self.roles.now.above) (Contains l.yielded) l.met;
}
