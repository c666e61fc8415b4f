-- A record's numbers have room exactly where a place is free.
use Rattle.std.proofs.Common.{ltb-true, lt-ltb, arith}
use Rattle.reading.proofs.ShelfLaws.{room-in, room-out}
use Rattle.reading.proofs.shelf.Shelf.has_room.Goals as goal

pub returns : goal.returns
returns g c = rw (← c.self.view_is) (
  λ e. let free = ltb-true _ _ e in room-in c.self.invariant c.self.told (omega arith),
  λ h. let free = room-out c.self.invariant c.self.told h in lt-ltb _ _ (omega arith),
)
