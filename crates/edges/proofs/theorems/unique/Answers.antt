-- There is one list.
use Rattle.edges.proofs.Mean.{one-list}
use Rattle.edges.proofs.theorems.unique.Goals as goal

pub returns : goal.returns
returns c = record { one_list = one-list }
