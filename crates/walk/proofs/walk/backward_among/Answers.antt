-- `backward_among`: the walk begins with the last individual in the state, and with nodes that are not ahead of it.
use Rattle.std.proofs.Common.{rules}
use Rattle.walk.proofs.BackLaws.{lead_to_among, among_none}
use Rattle.walk.proofs.EndLaws.{outside_start}
use Rattle.walk.proofs.GrowLaws.{ready-set}
use Rattle.walk.proofs.KnownLaws.{lent_none}
use Rattle.walk.proofs.walk.backward_among.Goals as goal

pub returns-then-last-ge-MOST : goal.returns-then-last-ge-MOST
returns-then-last-ge-MOST c = among_none _ _ c.requires.backward _ _ _ _ c.outside-others.ensures

pub exhaust-requires-clause-ready : goal.exhaust-requires-clause-ready
exhaust-requires-clause-ready c = ready-set _ _ _ c.outside-others.ensures.ready (search rules)

pub exhaust-requires-clause-lent : goal.exhaust-requires-clause-lent
exhaust-requires-clause-lent c = lent_none _

pub returns : goal.returns
returns c =
    lead_to_among _ _ c.requires.backward _ _ _ _ _ _ _ _ _ _ c.requires.ahead
    (outside_start _ _ _ _ _ _ c.outside-others.ensures c.if-last-ge-MOST.false c.only.ensures c.union.ensures) c.exhaust.ensures
