-- `put_list`: the number by what was found, and the row by what was told.
use Rattle.std.proofs.Common.{arith}
use Rattle.laws.specs.First.{holds}
use Rattle.index.proofs.Replies as replies
use Rattle.lampsaffron.proofs.Front.{all_put-few, put-told, no-place}
use Rattle.lampsaffron.proofs.ListingLaws.{put_entries, list-put, none-put, few-told, number-sheet, number-none, refused-number}
use Rattle.lampsaffron.proofs.listing.put_list.Goals as goal

pub returns-in-Err-clause-number : goal.returns-in-Err-clause-number
returns-in-Err-clause-number c =
    rw (c.number.ensures.number, c.answer.ensures)
    (holds c.requires.fits
    (holds c.requires.room (refused-number c.args.lent.now c.requires.fits c.in-Err.refusal c.in-Err.ensures.refused _)))

pub unreachable-requires : goal.unreachable-requires
unreachable-requires c =
    let w = c.in-Err-tell_sheet.ensures.failed in
    let l = c.in-Ok.checked in
    no-place put_entries (λ x. x.numbers.now) (λ x. x.told) (λ x. x.numbers.ghost_name) _
    (λ x r m y k. k) (λ x r m e y k. k) c.requires.none w.3
    (omega (arith, all_put-few put_entries 0 w.0 w.1, few-told l.lent l.passes _ w.2, c.requires.room))

pub returns-in-Ok-true-clause-same : goal.returns-in-Ok-true-clause-same
returns-in-Ok-true-clause-same c =
    let w = c.in-Ok-true.ensures.told in
    (put-told put_entries (λ x. x.numbers.now) (λ x. x.told) (λ x. x.numbers.ghost_name) _ (λ x r m y k. k) w.2).0

pub returns-in-Ok-true-clause-number : goal.returns-in-Ok-true-clause-number
returns-in-Ok-true-clause-number c =
    let l = c.in-Ok.checked in
    let sane = c.in-Ok-true.ensures.there.0 c.in-Ok-true.field-0-test in
    rw (← c.in-Ok.ensures.ok) (number-sheet _ _ _ l.passes.counts c.requires.room l.passes.tables l.passes.numbers sane)

pub returns-in-Ok-true-clause-listed : goal.returns-in-Ok-true-clause-listed
returns-in-Ok-true-clause-listed c =
    let l = c.in-Ok.checked in
    let sane = c.in-Ok-true.ensures.there.0 c.in-Ok-true.field-0-test in
    let w = c.in-Ok-true.ensures.told in
    let h = put-told put_entries (λ x. x.numbers.now) (λ x. x.told) (λ x. x.numbers.ghost_name) _ (λ x r m y k. k) w.2 in
    rw (← c.in-Ok.ensures.ok) (λ z. list-put l.lent l.passes w.0 w.1 sane (rw c.requires.none at h.1))

pub returns-in-Ok-false-clause-same : goal.returns-in-Ok-false-clause-same
returns-in-Ok-false-clause-same c =
    let w = c.in-Ok-false.ensures.told in
    (put-told put_entries (λ x. x.numbers.now) (λ x. x.told) (λ x. x.numbers.ghost_name) _ (λ x r m y k. k) w.2).0

pub returns-in-Ok-false-clause-number : goal.returns-in-Ok-false-clause-number
returns-in-Ok-false-clause-number c =
    let l = c.in-Ok.checked in
    let broken = replies.fails c.in-Ok-false.ensures.there c.in-Ok-false.field-0-test in
    rw (← c.in-Ok.ensures.ok) (number-none _ _ _ l.passes.counts c.requires.room l.passes.tables l.passes.numbers broken)

pub returns-in-Ok-false-clause-kept : goal.returns-in-Ok-false-clause-kept
returns-in-Ok-false-clause-kept c = λ n.
    let l = c.in-Ok.checked in
    let broken = replies.fails c.in-Ok-false.ensures.there c.in-Ok-false.field-0-test in
    let w = c.in-Ok-false.ensures.told in
    let h = put-told put_entries (λ x. x.numbers.now) (λ x. x.told) (λ x. x.numbers.ghost_name) _ (λ x r m y k. k) w.2 in
    none-put l.lent l.passes w.0 w.1 broken (rw c.requires.none at h.1)
