-- `prepare_telling`: how many marks were told make those that stand, and with other deed numbers all is the same.
use Rattle.sheet.proofs.TellingLaws.{passed_on}
use Rattle.index.proofs.Deeds.{left-whatever, told-whatever}
use Rattle.index.proofs.ToldOnce.{told-stand}
use Rattle.index.proofs.lent.Lent.prepare_telling.Goals as goal

pub returns-clause-stand : goal.returns-clause-stand
returns-clause-stand g c = told-stand _ _ c.in_ok-worked.ensures.left.sheet

pub returns-clause-deeds : goal.returns-clause-deeds
returns-clause-deeds g c = left-whatever _ c.in_ok-worked.ensures.left

pub returns-clause-deeds_told : goal.returns-clause-deeds_told
returns-clause-deeds_told g c = λ t s. let w = c.in_ok-worked.ensures.told in (w.0, told-whatever _ w.1 t s, w.2)

pub returns-in_err-worked-clause-failed : goal.returns-in_err-worked-clause-failed
returns-in_err-worked-clause-failed g c = passed_on c.from_residual.result _ _ c.from_residual.ensures.1 c.in_err-worked.ensures.failed

pub returns-in_err-worked-clause-deeds_failed : goal.returns-in_err-worked-clause-deeds_failed
returns-in_err-worked-clause-deeds_failed g c =
    let w = c.in_err-worked.ensures.failed in
    passed_on c.from_residual.result _ _ c.from_residual.ensures.1 (λ t s. (w.0, w.1, told-whatever _ w.2 t s, w.3))
