-- `tell_salvage`: the tests in their order, and the marks that were put.
use Rattle.std.proofs.Common.{refl, rules}
use Rattle.laws.specs.First.{fails, holds}
use Rattle.index.proofs.Replies as replies
use Rattle.lampsaffron.proofs.SalvageLaws.{readable, number_ok, number_refused, marks_put}
use Rattle.lampsaffron.proofs.kept.tell_salvage.Goals as goal

pub returns-then-not-fit-clause-number : goal.returns-then-not-fit-clause-number
returns-then-not-fit-clause-number c = fails (replies.fails c.fit.ensures c.if-not-fit.true)

pub returns-then-not-is_readable-clause-number : goal.returns-then-not-is_readable-clause-number
returns-then-not-is_readable-clause-number c =
    holds (c.fit.ensures.0 c.if-not-fit.false)
    (fails (λ f. replies.fails c.is_readable.ensures c.if-not-is_readable.true (readable _ _ _ f)))

pub returns-in-Ok-clause-number : goal.returns-in-Ok-clause-number
returns-in-Ok-clause-number c =
    number_ok _ _ (c.is_readable.ensures.0 c.if-not-is_readable.false) c.read_order.ensures (c.in-Ok.ensures.ok.0 refl)

pub returns-in-Ok-clause-marks : goal.returns-in-Ok-clause-marks
returns-in-Ok-clause-marks c = λ z.
    marks_put _ _ _ _ _ (search rules) c.tell_marks.ensures.front (rw c.read_order.ensures at c.in-Ok.ensures.salvage)

pub returns-in-Err-clause-number : goal.returns-in-Err-clause-number
returns-in-Err-clause-number c =
    let e = c.in-Err.ensures in
    rw (c.number.ensures.number, c.answer.ensures)
    (number_refused _ _ (c.is_readable.ensures.0 c.if-not-is_readable.false) c.read_order.ensures (search rules)
    (c.fit.ensures.0 c.if-not-fit.false) c.in-Err.refusal
    (record { ok = e.ok; bad_count = e.bad_count; bad_table = e.bad_table; bad_number = e.bad_number }))
