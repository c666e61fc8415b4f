-- `lampsaffron_marks`: the tests in their order, and what was worked out.
use Rattle.std.specs.Prelude.{◌≤◌, length}
use Rattle.std.proofs.Common.{arith, rules}
use Rattle.laws.specs.First.{fails, holds}
use Rattle.index.proofs.Replies as replies
use Rattle.index.proofs.ToldOnce.{told-most}
use Rattle.lampsaffron.specs.Marks.{left}
use Rattle.lampsaffron.proofs.Rounds.{idle, never-seven, none-kept, row-named, tells-worked, tells-left, tells-kept}
use Rattle.lampsaffron.proofs.Rounds.{tells-makes, idle-four, idle-five}
use Rattle.lampsaffron.proofs.Deeds.{marks-deeds}
use Rattle.lampsaffron.proofs.marks.lampsaffron_marks.Goals as goal

pub returns-then-not-fit-clause-number : goal.returns-then-not-fit-clause-number
returns-then-not-fit-clause-number c = fails (replies.fails (rw c.lent-lent.ensures.counts at c.fit.ensures) c.if-not-fit.true)

pub returns-then-not-fit-clause-deeds : goal.returns-then-not-fit-clause-deeds
returns-then-not-fit-clause-deeds c = λ t s. marks-deeds _ t s (tells-kept _ _ (returns-then-not-fit-clause-number c) idle-four)

pub returns-then-marks-allowance-clause-number : goal.returns-then-marks-allowance-clause-number
returns-then-marks-allowance-clause-number c =
    let fit = rw c.lent-lent.ensures.counts at c.fit.ensures in
    holds (fit.0 c.if-not-fit.false) (fails (λ h. omega (arith, h, c.if-marks-allowance.true)))

pub returns-then-marks-allowance-clause-deeds : goal.returns-then-marks-allowance-clause-deeds
returns-then-marks-allowance-clause-deeds c =
    λ t s. marks-deeds _ t s (tells-kept _ _ (returns-then-marks-allowance-clause-number c) idle-five)

pub overflow_cast-rounds : goal.overflow_cast-rounds
overflow_cast-rounds c =
    let t = c.work_out-number.ensures.told in
    omega (arith, told-most _ _ t.1, t.2.many, c.lent-lent.ensures.allowance, c.ranges.allowance.fits)

pub returns-then-has_rounds-clause-number : goal.returns-then-has_rounds-clause-number
returns-then-has_rounds-clause-number c =
    let n = c.work_out-number.ensures in
    let l = c.lent-lent.ensures in
    let old = left c.args.area.now c.args.spare.now c.args.marks.now 0 in
    let worked = c.has_rounds.ensures.0 c.if-has_rounds.true in
    (tells-worked c.lent-lent.result l.counts l.tables l.allowance old n.number worked n.sheet n.cleared n.told).number_is

pub returns-then-has_rounds-clause-seven_never : goal.returns-then-has_rounds-clause-seven_never
returns-then-has_rounds-clause-seven_never c = never-seven _ _ c.work_out-number.ensures.number

pub returns-then-has_rounds-clause-sheet : goal.returns-then-has_rounds-clause-sheet
returns-then-has_rounds-clause-sheet c =
    let n = c.work_out-number.ensures in
    let l = c.lent-lent.ensures in
    let old = left c.args.area.now c.args.spare.now c.args.marks.now 0 in
    let worked = c.has_rounds.ensures.0 c.if-has_rounds.true in
    (tells-worked c.lent-lent.result l.counts l.tables l.allowance old n.number worked n.sheet n.cleared n.told).sheet

pub returns-then-has_rounds-clause-cleared : goal.returns-then-has_rounds-clause-cleared
returns-then-has_rounds-clause-cleared c =
    let n = c.work_out-number.ensures in
    let l = c.lent-lent.ensures in
    let old = left c.args.area.now c.args.spare.now c.args.marks.now 0 in
    let worked = c.has_rounds.ensures.0 c.if-has_rounds.true in
    (tells-worked c.lent-lent.result l.counts l.tables l.allowance old n.number worked n.sheet n.cleared n.told).cleared

pub returns-then-has_rounds-clause-makes_sheet : goal.returns-then-has_rounds-clause-makes_sheet
returns-then-has_rounds-clause-makes_sheet c =
    let n = c.work_out-number.ensures in
    let l = c.lent-lent.ensures in
    let old = left c.args.area.now c.args.spare.now c.args.marks.now 0 in
    let worked = c.has_rounds.ensures.0 c.if-has_rounds.true in
    let made = tells-makes (tells-worked c.lent-lent.result l.counts l.tables l.allowance old n.number worked n.sheet n.cleared n.told) in
    λ w. search (rules, made w)

pub returns-then-has_rounds-clause-deeds : goal.returns-then-has_rounds-clause-deeds
returns-then-has_rounds-clause-deeds c =
    let n = c.work_out-number.ensures in
    let l = c.lent-lent.ensures in
    let old = left c.args.area.now c.args.spare.now c.args.marks.now c.args.rounds.now in
    let worked = c.has_rounds.ensures.0 c.if-has_rounds.true in
    let told = tells-worked c.lent-lent.result l.counts l.tables l.allowance old n.number worked n.sheet n.cleared n.told in
    λ t s. row-named (marks-deeds _ t s told) (search rules)

pub returns-else-has_rounds-clause-seven_never : goal.returns-else-has_rounds-clause-seven_never
returns-else-has_rounds-clause-seven_never c = never-seven _ _ c.work_out-number.ensures.number

pub returns-else-has_rounds-clause-number : goal.returns-else-has_rounds-clause-number
returns-else-has_rounds-clause-number c =
    let n = c.work_out-number.ensures in
    let l = c.lent-lent.ensures in
    let old = left c.args.area.now c.args.spare.now c.args.marks.now 0 in
    let idle = replies.fails c.has_rounds.ensures c.if-has_rounds.false in
    let room : c.args.allowance ≤ length c.args.marks.now = omega (arith, c.if-marks-allowance.false) in
    (tells-left c.lent-lent.result l.counts l.tables l.allowance old n.number idle room n.untouched n.spared n.told).number_is

pub returns-else-has_rounds-clause-deeds : goal.returns-else-has_rounds-clause-deeds
returns-else-has_rounds-clause-deeds c =
    let n = c.work_out-number.ensures in
    let l = c.lent-lent.ensures in
    let old = left c.args.area.now c.args.spare.now c.args.marks.now c.args.rounds.now in
    let idle = replies.fails c.has_rounds.ensures c.if-has_rounds.false in
    let room : c.args.allowance ≤ length c.args.marks.now = omega (arith, c.if-marks-allowance.false) in
    let told = tells-left c.lent-lent.result l.counts l.tables l.allowance old n.number idle room n.untouched n.spared n.told in
    λ t s. row-named (marks-deeds _ t s told) (search rules)

pub returns-else-has_rounds-clause-area_kept : goal.returns-else-has_rounds-clause-area_kept
returns-else-has_rounds-clause-area_kept c = λ w.
    let n = c.work_out-number.ensures in
    n.untouched (idle _ _ n.number w (omega (arith, c.lent-lent.ensures.allowance, c.if-marks-allowance.false)))

pub returns-else-has_rounds-clause-spare_kept : goal.returns-else-has_rounds-clause-spare_kept
returns-else-has_rounds-clause-spare_kept c = λ w.
    let n = c.work_out-number.ensures in
    n.spared (idle _ _ n.number w (omega (arith, c.lent-lent.ensures.allowance, c.if-marks-allowance.false)))

pub returns-else-has_rounds-clause-marks_kept : goal.returns-else-has_rounds-clause-marks_kept
returns-else-has_rounds-clause-marks_kept c = λ w.
    let n = c.work_out-number.ensures in
    let kept = none-kept _ n.told (idle _ _ n.number w (omega (arith, c.lent-lent.ensures.allowance, c.if-marks-allowance.false))) in
    search (rules, kept)
