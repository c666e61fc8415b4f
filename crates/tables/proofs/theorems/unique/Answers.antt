-- The contract of `check` leaves one answer.
use Rattle.tables.proofs.Unique.{checks-unique}
use Rattle.tables.proofs.theorems.unique.Goals as goal

pub returns : goal.returns
returns c = record { one_refusal = checks-unique }
