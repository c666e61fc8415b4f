use Rattle.fair_copy.proofs.Answering.{faulty-alike}
use Rattle.fair_copy.proofs.theorems.faulty.Goals as goal

pub returns : goal.returns
returns c = record { alike = faulty-alike }
