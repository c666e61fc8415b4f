use Rattle.sorted.proofs.Unique.{compares-once}
use Rattle.sorted.proofs.theorems.unique.Goals as goal

pub returns : goal.returns
returns c = record { one_comparison = compares-once }
