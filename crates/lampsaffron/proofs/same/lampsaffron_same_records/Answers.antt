-- The number of two collections that were compared, and of one that is refused.
use Rattle.std.specs.Prelude.{Ok}
use Rattle.std.proofs.Common.{refl, ap}
use Rattle.lampsaffron.proofs.SameLaws.{refused-number, same-number, others-number}
use Rattle.lampsaffron.proofs.same.lampsaffron_same_records.Goals as goal

pub returns-in-Ok-true-clause-number : goal.returns-in-Ok-true-clause-number
returns-in-Ok-true-clause-number c =
    let one = c.collection.ensures in
    let other = c.collection-2.ensures in
    let same = c.in-Ok-true.ensures.same.0 (ap Ok c.in-Ok-true.field-0-test) in
    rw (← one.counts, ← one.tables, ← other.counts, ← other.tables) (same-number _ _ _ _ same)

pub returns-in-Ok-false-clause-number : goal.returns-in-Ok-false-clause-number
returns-in-Ok-false-clause-number c =
    let one = c.collection.ensures in
    let other = c.collection-2.ensures in
    let others = c.in-Ok-false.ensures.others.0 (ap Ok c.in-Ok-false.field-0-test) in
    rw (← one.counts, ← one.tables, ← other.counts, ← other.tables) (others-number _ _ _ _ others)

pub returns-in-Err-clause-number : goal.returns-in-Err-clause-number
returns-in-Err-clause-number c =
    let one = c.collection.ensures in
    let other = c.collection-2.ensures in
    rw (c.number.ensures.number, c.answer.ensures, ← one.counts, ← one.tables, ← other.counts, ← other.tables)
    (refused-number _ _ _ _ c.in-Err.refusal ((c.in-Err.ensures.refused c.in-Err.refusal).0 refl))
