use Rattle.std.proofs.Common.{eqb-true, eq-eqb}
use Rattle.reading.proofs.ShelfLaws.{none-in, none-out}
use Rattle.reading.proofs.shelf.Shelf.is_empty.Goals as goal

pub returns : goal.returns
returns g c = rw (← c.self.view_is) (
  λ e. none-in c.self.invariant c.self.told (eqb-true _ _ e),
  λ e. eq-eqb _ _ (none-out c.self.invariant c.self.told e),
)
