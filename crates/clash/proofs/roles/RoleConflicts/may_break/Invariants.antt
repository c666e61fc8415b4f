-- `may_break`: the unions over the edges that were given.
use Rattle.std.specs.Prelude.{map}
use Rattle.edges.specs.Packed.{edge_of}
use Rattle.edges.proofs.GivenLaws.{Goes}
use Rattle.clash.proofs.TriedLaws.{Gathers}
use Rattle.clash.proofs.roles.RoleConflicts.may_break.Given as goal

abbrev pub invariant-loop-edge : goal.invariant-loop-edge
invariant-loop-edge l = record {
  goes : Goes l.edges.facts.numbers.now l.edges.roles.0 l.fn.a.0 l.yielded (map edge_of l.edge-iterator.rest.now);
  follow : Gathers l.self.roles.now.above l.yielded l.follow.0;
  excluded : Gathers l.self.excluded l.yielded l.excluded.0;
}
