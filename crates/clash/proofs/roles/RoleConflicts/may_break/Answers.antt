-- `may_break` meets its contract: one edge more, and what the unions over all of them say.
use Rattle.edges.proofs.GivenLaws.{goes_more}
use Rattle.clash.proofs.TriedLaws.{gathers_more, unions_meet}
use Rattle.clash.proofs.roles.RoleConflicts.may_break.Goals as goal

pub loop-edge-preserved : goal.loop-edge-preserved
loop-edge-preserved c =
    let i = c.loop-edge.invariant in
    record {
      goes = goes_more _ _ _ _ _ _ c.in-Some.edge i.goes c.in-Some.ensures.steps;
      follow = gathers_more _ _ c.in-Some.edge _ _ i.follow c.union-follow.ensures;
      excluded = gathers_more _ _ c.in-Some.edge _ _ i.excluded c.union-excluded.ensures;
    }

pub returns : goal.returns
returns c w =
    let i = c.loop-edge.invariant in
    c.meet.ensures.1 (unions_meet _ _ _ _ _ _ c.requires _ _ _ _ i.goes c.in-None.ensures.steps.0 i.follow i.excluded w)
