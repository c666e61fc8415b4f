-- `lampsaffron_area_from_16`: the number where the area is moved, and where it is not.
use Rattle.std.proofs.Common.{refl}
use Rattle.laws.specs.First.{holds}
use Rattle.lampsaffron.proofs.AreasLaws.{moves-not}
use Rattle.lampsaffron.proofs.areas.lampsaffron_area_from_16.Goals as goal

pub returns-in-Ok-clause-number : goal.returns-in-Ok-clause-number
returns-in-Ok-clause-number c = holds (c.area_from_16.ensures.ok.0 (rw c.in-Ok.is refl)) refl

pub returns-in-Err-clause-number : goal.returns-in-Err-clause-number
returns-in-Err-clause-number c =
    let told = c.area_from_16.ensures in
    rw c.unmoved_number.ensures (moves-not _ _ c.area_from_16.result c.in-Err.unmoved c.in-Err.is told.ok told.bad_length)
