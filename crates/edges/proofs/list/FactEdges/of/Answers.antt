-- `of` meets its contract: the edges of an individual are a part of the list; one that is out of range has none.
use Rattle.std.proofs.Common.{sym, arith, rules}
use Rattle.edges.proofs.EdgeLaws.{no-edges}
use Rattle.edges.proofs.PlaceLaws.{part_within}
use Rattle.edges.proofs.LeftLaws.{own_in_range}
use Rattle.edges.proofs.list.FactEdges.of.Goals as goal

pub returns-then-a-ge-MOST : goal.returns-then-a-ge-MOST
returns-then-a-ge-MOST c = sym
    (no-edges c.args.self.now.facts.numbers.now c.args.self.now.roles.0 c.args.a.0 (omega (arith, c.if-a-ge-MOST.true)))

pub slice_bounds-result-count : goal.slice_bounds-result-count
slice_bounds-result-count c = (part_within _ _ _ _ c.args.a.0 c.args.self.now.edges (omega (arith, c.if-a-ge-MOST.false))).0

pub slice_bounds-result-start : goal.slice_bounds-result-start
slice_bounds-result-start c =
    let w = part_within _ _ _ _ c.args.a.0 c.args.self.now.edges (omega (arith, c.if-a-ge-MOST.false)) in
    omega (arith, c.args.self.now.edges.few)

pub slice_bounds-result-end-2 : goal.slice_bounds-result-end-2
slice_bounds-result-end-2 c =
    let w = part_within _ _ _ _ c.args.a.0 c.args.self.now.edges (omega (arith, c.if-a-ge-MOST.false)) in
    search (rules, w.0, w.1)

pub invariant_of-result-2 : goal.invariant_of-result-2
invariant_of-result-2 c = record
    { rows = own_in_range _ _ c.args.a.0 _ (c.args.self.now.edges.own c.args.a.0 (omega (arith, c.if-a-ge-MOST.false))) }
