-- `leads_to` meets its contract: the row is that of ∃ of the inverse.
use Rattle.kinds.specs.Kinds.{inverse, number_of}
use Rattle.sift.proofs.excluded.leads_to.Goals as goal

pub returns : goal.returns
unfolding number_of inverse
returns c = rw (c.above.ensures, c.exists.ensures, c.inverse.ensures) at c.promises.ensures
