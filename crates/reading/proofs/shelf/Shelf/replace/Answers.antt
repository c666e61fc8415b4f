use Rattle.std.proofs.Common.{arith}
use Rattle.reading.proofs.ShelfLaws.{holds-table, table-held}
use Rattle.reading.proofs.shelf.Shelf.replace.Goals as goal

pub invariant_of-self : goal.invariant_of-self
invariant_of-self g c =
    let t = c.copy_front-self-inside.ensures in
    holds-table c.self.invariant c.self.told _ (omega (arith, t.within, c.self.told)) _ t.front

pub returns : goal.returns
returns g c =
    let t = c.copy_front-self-inside.ensures in
    table-held c.self.invariant c.self.told _ (omega (arith, t.within, c.self.told)) _ t.front c.requires
