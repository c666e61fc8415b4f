-- The trips are there already, or are put.
use Rattle.sheet.proofs.Laws.{trips_done, trips_put}
use Rattle.sheet.proofs.through.put_trips.Goals as goal

pub returns-then-is_done-clause-put : goal.returns-then-is_done-clause-put
returns-then-is_done-clause-put c = trips_done _ _ _ _ _ c.requires (c.is_done.ensures c.if-is_done.true)

pub returns-clause-last : goal.returns-clause-last
returns-clause-last c = trips_put _ _ c.all_trips.ensures
