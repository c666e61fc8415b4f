use Rattle.file.proofs.LeftOut.{list-changes-nothing, list-refused}
use Rattle.file.proofs.theorems.list.Goals as goal

pub returns : goal.returns
returns c = record { changes_nothing = list-changes-nothing; refused = list-refused }
