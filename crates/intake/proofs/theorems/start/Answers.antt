use Rattle.intake.proofs.VerdictLaws.{start-decides}
use Rattle.intake.proofs.theorems.start.Goals as goal

pub returns : goal.returns
returns c = record { decides = start-decides }
