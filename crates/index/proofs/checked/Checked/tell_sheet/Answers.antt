-- `tell_sheet`: with so many rounds allowed what is told is told of the whole sheet.
use Rattle.std.proofs.Common.{refl}
use Rattle.std.proofs.lemmas.Bool.{false≢true}
use Rattle.sheet.proofs.TellingLaws.{passed_on}
use Rattle.index.proofs.ToldWhole.{told-sheet, there, nowhere}
use Rattle.index.proofs.checked.Checked.tell_sheet.Goals as goal

pub returns-in-Ok-clause-there : goal.returns-in-Ok-clause-there
returns-in-Ok-clause-there g c =
    let h = there _ c.args.self.now.passes refl (rw c.in_ok-prepared.ensures.own at c.in-Ok.ensures.needed) in
    (λ t. h, λ n. refl)

pub returns-in-Ok-clause-told : goal.returns-in-Ok-clause-told
returns-in-Ok-clause-told g c =
    let w = c.in_ok-prepared.ensures.told in
    (w.0, told-sheet _ c.args.self.now.passes refl w.1, w.2)

pub returns-in-Err-clause-there : goal.returns-in-Err-clause-there
returns-in-Err-clause-there g c =
    let h = nowhere _ c.args.self.now.passes refl (rw c.in_ok-prepared.ensures.own at c.in-Err.ensures.none) in
    (λ t. absurd (false≢true t), λ n. absurd (h n))

pub returns-in-Err-clause-told : goal.returns-in-Err-clause-told
returns-in-Err-clause-told g c =
    let w = c.in_ok-prepared.ensures.told in
    (w.0, told-sheet _ c.args.self.now.passes refl w.1, w.2)

pub returns-in_err-prepared-clause-failed : goal.returns-in_err-prepared-clause-failed
returns-in_err-prepared-clause-failed g c =
    let w = c.in_err-prepared.ensures.failed in
    passed_on c.from_residual.result _ _ c.from_residual.ensures.1 (w.0, w.1, told-sheet _ c.args.self.now.passes refl w.2, w.3)
