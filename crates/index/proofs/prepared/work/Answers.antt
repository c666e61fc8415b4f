-- `work`: a collection that passed its tests, with areas of the right length; else its refusal.
use Rattle.std.specs.Prelude.{refl, []}
use Rattle.sheet.specs.Told.{none}
use Rattle.sheet.proofs.TellingLaws.{passed_on}
use Rattle.index.proofs.Areas.{left-found, left-refused}
use Rattle.index.proofs.Heard.{told-found, told-refused, begun}
use Rattle.index.proofs.Outcomes.{passes, has_areas}
use Rattle.index.proofs.prepared.work.Goals as goal

pub returns-in-Err-clause-left : goal.returns-in-Err-clause-left
returns-in-Err-clause-left g c = left-refused c.args.lent.now _ _ _ _ _ (rw c.in-Err.is at c.check.ensures) refl refl

pub returns-in-Err-clause-told : goal.returns-in-Err-clause-told
returns-in-Err-clause-told g c = ([], told-refused c.args.lent.now _ _ _ (rw c.in-Err.is at c.check.ensures), none)

pub returns-in_ok-found-in-Ok-clause-worked : goal.returns-in_ok-found-in-Ok-clause-worked
returns-in_ok-found-in-Ok-clause-worked g c =
    let t = c.check.ensures in
    record {
      passes = passes c.args.lent.now _ _ t c.in-Ok.is;
      areas = has_areas c.args.lent.now _ _ t c.in-Ok.is;
      found = c.in_ok-found-in-Ok.ensures.found;
    }

pub returns-in_ok-found-in-Ok-clause-left : goal.returns-in_ok-found-in-Ok-clause-left
returns-in_ok-found-in-Ok-clause-left g c =
    let areas = has_areas c.args.lent.now _ _ c.check.ensures c.in-Ok.is in
    let f = c.in_ok-found-in-Ok.ensures in
    left-found c.args.lent.now _ _ _ _ _ (returns-in_ok-found-in-Ok-clause-worked g c) (f.first areas) (f.second areas)

pub returns-in_ok-found-in-Ok-clause-told : goal.returns-in_ok-found-in-Ok-clause-told
returns-in_ok-found-in-Ok-clause-told g c =
    let w = c.in_ok-found-in-Ok.ensures.told in
    (w.0, told-found c.args.lent.now _ _ _ (returns-in_ok-found-in-Ok-clause-worked g c) w.0 w.1, w.2)

pub returns-in_err-found-in-Ok-clause-failed : goal.returns-in_err-found-in-Ok-clause-failed
returns-in_err-found-in-Ok-clause-failed g c =
    let t = c.check.ensures in
    let w = c.in_err-found-in-Ok.ensures.failed in
    let b = begun c.args.lent.now _ _ (passes c.args.lent.now _ _ t c.in-Ok.is) (has_areas c.args.lent.now _ _ t c.in-Ok.is) w.0 w.1 in
    passed_on c.from_residual.result _ _ c.from_residual.ensures.1 (w.0, w.1.rest, b, w.2)
