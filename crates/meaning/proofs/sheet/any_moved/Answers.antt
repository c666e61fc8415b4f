-- Where the one holds a sheet, the other does.
use Rattle.meaning.proofs.FormerLaws.{held-is-moved, held-is-moved-back}
use Rattle.meaning.proofs.sheet.any_moved.Goals as goal

pub returns : goal.returns
returns g c = record { held_is_moved = held-is-moved _; held_is_moved_back = held-is-moved-back _ }
