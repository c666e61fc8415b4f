-- `prepare_telling` of what passed its tests: what was found is that of two areas of their length, and what was told is to be told.
use Rattle.std.specs.Prelude.{refl}
use Rattle.sheet.proofs.TellingLaws.{passed_on}
use Rattle.meaning.specs.Layout.{area_length}
use Rattle.index.specs.Works.{HasAreas}
use Rattle.index.proofs.Heard.{told-found, begun}
use Rattle.index.proofs.Deeds.{told-whatever}
use Rattle.index.proofs.checked.Checked.prepare_telling.Goals as goal

fitting : HasAreas area_length area_length
fitting = record { area = refl; spare = refl }

pub returns-clause-told : goal.returns-clause-told
returns-clause-told g c =
    let s = c.args.self.now in
    let w = c.in_ok-found.ensures.told in
    (w.0, told-found s.lent _ _ _ (record { passes = s.passes; areas = fitting; found = c.in_ok-found.ensures.found }) w.0 w.1, w.2)

pub returns-clause-deeds_told : goal.returns-clause-deeds_told
returns-clause-deeds_told g c = λ t s. let w = returns-clause-told g c in (w.0, told-whatever _ w.1 t s, w.2)

pub returns-in_err-found-clause-failed : goal.returns-in_err-found-clause-failed
returns-in_err-found-clause-failed g c =
    let s = c.args.self.now in
    let w = c.in_err-found.ensures.failed in
    passed_on c.from_residual.result _ _ c.from_residual.ensures.1 (w.0, w.1.rest, begun s.lent _ _ s.passes fitting w.0 w.1, w.2)

pub returns-in_err-found-clause-deeds_failed : goal.returns-in_err-found-clause-deeds_failed
returns-in_err-found-clause-deeds_failed g c =
    let s = c.args.self.now in
    let w = c.in_err-found.ensures.failed in
    let b = begun s.lent area_length area_length s.passes fitting w.0 w.1 in
    passed_on c.from_residual.result _ _ c.from_residual.ensures.1 (λ t d. (w.0, w.1.rest, told-whatever _ b t d, w.2))
