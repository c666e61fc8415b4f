use Rattle.sift.proofs.Marking.{one_outcome}
use Rattle.sift.proofs.theorems.unique.Goals as goal

pub returns : goal.returns
returns c = record { one_salvage = one_outcome }
