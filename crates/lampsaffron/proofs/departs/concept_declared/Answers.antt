-- No declared concept has a number of more than 16 bits.
use Rattle.std.proofs.Common.{arith}
use Rattle.std.proofs.lemmas.Bool.{false≢true}
use Rattle.lampsaffron.proofs.DepartsLaws.{concept-low}
use Rattle.lampsaffron.proofs.departs.concept_declared.Goals as goal

pub returns-in-Err : goal.returns-in-Err
returns-in-Err c = (
  λ t. absurd (false≢true t),
  λ h. let l = concept-low c.args.counts c.requires c.args.number h in absurd (c.in-Err.ensures (omega arith)),
)
