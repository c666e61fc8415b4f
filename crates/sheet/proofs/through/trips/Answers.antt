-- Down, along, and up.
use Rattle.sheet.proofs.Laws.{trips_are}
use Rattle.sheet.proofs.through.trips.Goals as goal

pub returns : goal.returns
returns c = trips_are _ _ _ _ _ c.image.ensures c.image-2.ensures
