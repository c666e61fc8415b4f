-- `Strides::answer`: what the walk from the ask's first individual reached tells.
use Rattle.std.proofs.Common.{sym, ap}
use Rattle.kinds.specs.declared.Individual.{Individual}
use Rattle.walk.proofs.TellLaws.{told-right}
use Rattle.walk.proofs.strides.Strides.answer.Goals as goal

pub returns : goal.returns
returns c = told-right _ _ _ _ _ _ c.walk-reached.ensures _ _ (ap (λ (x : Individual). x.0) (sym c.first.ensures)) c.is_hit.ensures
