use Rattle.sorted.proofs.TidyLaws.{tables-alike}
use Rattle.sorted.proofs.theorems.in_order.Goals as goal

pub returns : goal.returns
returns c = record { tidied = λ w wide t u v x a b. tables-alike w wide a b }
