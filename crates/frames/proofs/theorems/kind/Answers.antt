use Rattle.frames.proofs.Named.{kind-named}
use Rattle.frames.proofs.theorems.kind.Goals as goal

pub returns : goal.returns
returns c = record { named = kind-named }
