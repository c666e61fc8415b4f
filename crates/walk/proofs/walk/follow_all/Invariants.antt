-- `follow_all`: the edges that were given have been followed.
use Rattle.std.proofs.Common.{List, map, Contains}
use Rattle.edges.specs.declared.FactEdge.{FactEdge}
use Rattle.edges.specs.Packed.{edge_of}
use Rattle.walk.specs.Images.{AreImages}
use Rattle.walk.specs.Passes.{facts_of, roles_of, Grows, ByEdges}
use Rattle.walk.proofs.GivenLaws.{AreGiven}
use Rattle.walk.proofs.walk.follow_all.Given as goal

abbrev pub invariant-loop-edge : goal.invariant-loop-edge
invariant-loop-edge l = record {
  given : List FactEdge;
  all : AreGiven (facts_of l.guide) (roles_of l.guide) l.fn.a.0 given (map edge_of l.edge-iterator.rest.now);
  grows : Grows (ByEdges l.guide (Contains given) l.m.0) l.fn.reached l.reached l.grew;
  made : AreImages l.guide.directed.now.transitions.now l.m.0 l.images;
}
