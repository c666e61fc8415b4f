-- `lampsaffron_area_to_16`: the number where the area is moved back, and where it is not.
use Rattle.std.specs.Prelude.{Err}
use Rattle.std.proofs.Common.{refl, ap, ◌∙◌}
use Rattle.laws.specs.First.{holds}
use Rattle.lampsaffron.proofs.AreasLaws.{back-not}
use Rattle.lampsaffron.proofs.areas.lampsaffron_area_to_16.Goals as goal

pub returns-in-Ok-clause-number : goal.returns-in-Ok-clause-number
returns-in-Ok-clause-number c = let w = c.area_to_16.ensures.ok.0 (rw c.in-Ok.is refl) in holds w.long (holds w.below refl)

pub returns-in-Err-clause-number : goal.returns-in-Err-clause-number
returns-in-Err-clause-number c =
    let told = c.area_to_16.ensures in
    rw c.unmoved_number.ensures
    (back-not _ _ c.in-Err.why (λ e. told.bad_length.0 (c.in-Err.is ∙ ap Err e)) (λ e. told.above.0 (c.in-Err.is ∙ ap Err e)))
