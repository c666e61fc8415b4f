use Rattle.frames.proofs.Once.{frame-once}
use Rattle.frames.proofs.theorems.frame.Goals as goal

pub returns : goal.returns
returns c = record { once = frame-once }
