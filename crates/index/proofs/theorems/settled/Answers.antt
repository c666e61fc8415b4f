-- One number of rounds, or one reason.
use Rattle.index.proofs.Settled.{one-needed, one-reason, not-both}
use Rattle.index.proofs.theorems.settled.Goals as goal

pub returns : goal.returns
returns c = record { one_needed = one-needed; one_reason = one-reason; not_both = not-both }
