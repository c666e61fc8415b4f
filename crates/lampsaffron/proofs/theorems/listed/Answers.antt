-- The one call accepts what the other gives.
use Rattle.lampsaffron.proofs.Accepted.{accepted-given}
use Rattle.lampsaffron.proofs.theorems.listed.Goals as goal

pub returns : goal.returns
returns c = record { accepted_is_given = accepted-given }
