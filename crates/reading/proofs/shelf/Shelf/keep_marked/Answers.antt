use Rattle.std.proofs.Common.{arith}
use Rattle.reading.proofs.ShelfLaws.{holds-marked, held-marked}
use Rattle.reading.proofs.shelf.Shelf.keep_marked.Goals as goal

pub invariant_of-self : goal.invariant_of-self
invariant_of-self g c =
    let t = c.keep_first-self-inside.ensures in
    holds-marked c.self.invariant c.self.told _ (omega (arith, t.within, c.self.invariant.few)) _ t.front

pub returns : goal.returns
returns g c =
    let t = c.keep_first-self-inside.ensures in
    rw (← c.self.view_is) (held-marked c.self.invariant c.self.told _ (omega (arith, t.within, c.self.invariant.few)) _ t.front)
