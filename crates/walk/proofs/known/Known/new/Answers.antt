-- `new`: no individual has a place.
use Rattle.std.proofs.Common.{refl}
use Rattle.walk.proofs.KnownLaws.{known_none}
use Rattle.walk.proofs.known.Known.new.Goals as goal

pub returns : goal.returns
returns c = λ s start. known_none s start _ _ refl refl
