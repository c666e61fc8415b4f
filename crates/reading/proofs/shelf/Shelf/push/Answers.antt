-- One record more, of as many numbers as its type says.
use Rattle.reading.proofs.ShelfLaws.{room-out, holds-more, pushed}
use Rattle.reading.proofs.shelf.Shelf.push.Goals as goal

pub bounds-self-inside-self-inside : goal.bounds-self-inside-self-inside
bounds-self-inside-self-inside g c = room-out c.self.invariant c.self.told (rw c.self.view_is c.requires)

pub invariant_of-self : goal.invariant_of-self
invariant_of-self g c =
    let free = room-out c.self.invariant c.self.told (rw c.self.view_is c.requires) in
    holds-more c.self.invariant c.self.told _ c.well_formed.1.0.1.0.1 free

pub returns : goal.returns
returns g c =
    let free = room-out c.self.invariant c.self.told (rw c.self.view_is c.requires) in
    rw (← c.self.view_is) (pushed c.self.invariant c.self.told _ c.well_formed.1.0.1.0.1 free)
