use Rattle.intake.proofs.VerdictLaws.{verdict-once, verdict-found, verdict-taken}
use Rattle.intake.proofs.theorems.verdict.Goals as goal

pub returns : goal.returns
returns c = record { once = verdict-once; found = verdict-found; taken = verdict-taken }
