use Rattle.std.proofs.Common.{arith}
use Rattle.reading.proofs.ShelfLaws.{holds-tidied, held-tidied}
use Rattle.reading.proofs.shelf.Shelf.tidy.Goals as goal

pub invariant_of-self : goal.invariant_of-self
invariant_of-self g c =
    let t = c.tidy_front-self-inside.ensures in
    holds-tidied c.self.invariant c.self.told _ (omega (arith, t.within, c.self.invariant.few)) t.tidied

pub returns : goal.returns
returns g c =
    let t = c.tidy_front-self-inside.ensures in
    rw (← c.self.view_is) (held-tidied c.self.invariant c.self.told _ (omega (arith, t.within, c.self.invariant.few)) t.tidied)
