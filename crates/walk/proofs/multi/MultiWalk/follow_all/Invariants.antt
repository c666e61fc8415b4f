-- `follow_all`: the edges that were given have been followed.
use Rattle.std.proofs.Common.{List, map, Contains}
use Rattle.edges.specs.declared.FactEdge.{FactEdge}
use Rattle.edges.specs.Packed.{edge_of}
use Rattle.walk.specs.MultiWalks.{Grown, ByEdges}
use Rattle.walk.proofs.GivenLaws.{AreGiven}
use Rattle.walk.proofs.multi.MultiWalk.follow_all.Given as goal

abbrev pub invariant-loop-edge : goal.invariant-loop-edge
invariant-loop-edge l = record {
  given : List FactEdge;
  all : AreGiven l.strides.edges.now.facts.numbers.now l.strides.edges.now.roles.0 l.fn.a.0 given (map edge_of l.edge-iterator.rest.now);
  grown : Grown (ByEdges l.strides (Contains given) l.s.0 l.sources) l.fn.self l.self;
}
