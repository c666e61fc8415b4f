use Rattle.listing.proofs.Inputs.{faulty-alike}
use Rattle.listing.proofs.theorems.faulty.Goals as goal

pub returns : goal.returns
returns c = record { alike = faulty-alike }
