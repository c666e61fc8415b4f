-- `break_from` meets its contract: before the first edge no pair has a role, and each edge adds its own to one pair.
use Rattle.clash.proofs.SeekLaws.{shown, not_shown, never}
use Rattle.edges.proofs.GivenLaws.{goes_start, goes_more}
use Rattle.clash.proofs.TriedLaws.{listed_start, listed_here, listed_more, listed_end}
use Rattle.clash.proofs.roles.RoleConflicts.break_from.Goals as goal

pub loop-edge-init : goal.loop-edge-init
loop-edge-init c =
    rw (c.into_iter-edge-iterator.ensures.into_iter_gives)
    (record { goes = goes_start _ _ _ _ c.of-edge-items.ensures; tried = listed_start _ _ })

pub returns-then-join_edge : goal.returns-then-join_edge
returns-then-join_edge c =
    let i = c.loop-edge.invariant in
    let g = goes_more _ _ _ _ _ _ c.in-Some.edge i.goes c.in-Some.ensures.steps in
    shown
    (listed_here _ _ _ _ _ _ _ c.in-Some.edge _ _ _ i.tried g c.requires c.join_edge.ensures.adds
    (c.join_edge.ensures.meets.0 c.if-join_edge.true))

pub loop-edge-preserved : goal.loop-edge-preserved
loop-edge-preserved c =
    let i = c.loop-edge.invariant in
    let g = goes_more _ _ _ _ _ _ c.in-Some.edge i.goes c.in-Some.ensures.steps in
    record {
      goes = g;
      tried = listed_more _ _ _ _ _ _ _ c.in-Some.edge _ _ _ i.tried g c.requires c.join_edge.ensures.adds c.join_edge.array_long
          (never c.join_edge.ensures.meets c.if-join_edge.false);
    }

pub returns : goal.returns
returns c =
    let i = c.loop-edge.invariant in
    not_shown (listed_end _ _ _ _ _ _ _ _ i.goes c.in-None.ensures.steps.0 i.tried)
