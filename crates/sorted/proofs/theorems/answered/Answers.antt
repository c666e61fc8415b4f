use Rattle.sorted.proofs.SetLaws.{same-to-the-library, answered-alike}
use Rattle.sorted.proofs.theorems.answered.Goals as goal

pub returns : goal.returns
returns c = record { same_sets = same-to-the-library; alike = answered-alike }
