-- The states of all trips.
use Rattle.sheet.proofs.Laws.{gets_all}
use Rattle.sheet.proofs.through.trips_from.Goals as goal

pub returns : goal.returns
returns c = gets_all _ c.trips.ensures.member c.put_each.ensures
