-- `hold`: the number and the place by what was met.
use Rattle.std.proofs.Common.{arith}
use Rattle.laws.specs.First.{fails}
use Rattle.index.proofs.Replies as replies
use Rattle.index.specs.Works.{meant}
use Rattle.lampsaffron.proofs.DepartsLaws.{met-told, departed}
use Rattle.lampsaffron.proofs.HeldLaws.{held-all, held-more, held-other}
use Rattle.lampsaffron.proofs.departs.hold.Goals as goal

pub returns-then-held-list-clause-number : goal.returns-then-held-list-clause-number
returns-then-held-list-clause-number c =
    let k = c.args.checked.now in
    let sane = c.in-Ok-true.ensures.there.0 c.in-Ok-true.field-0-test in
    let w = c.in-Ok-true.ensures.told in
    let m = met-told (λ x. x.list.now) (λ x. x.met) _ (λ x r m y h. h) (meant k.lent.collection) w.2 in
    held-all k.lent k.passes c.args.list.now w.0 w.1 sane _ m.1 c.if-held-list.true

pub returns-in-Ok-false-clause-number : goal.returns-in-Ok-false-clause-number
returns-in-Ok-false-clause-number c = fails (replies.fails c.in-Ok-false.ensures.there c.in-Ok-false.field-0-test)

pub departs_at-requires : goal.departs_at-requires
departs_at-requires c =
    let k = c.args.checked.now in
    let sane = c.in-Ok-true.ensures.there.0 c.in-Ok-true.field-0-test in
    let w = c.in-Ok-true.ensures.told in
    let m = met-told (λ x. x.list.now) (λ x. x.met) _ (λ x r m y h. h) (meant k.lent.collection) w.2 in
    let d = held-more k.lent k.passes c.args.list.now w.0 w.1 sane _ m.1 c.if-held-list.false in
    omega (arith, d.few, c.requires.few)

pub returns-else-held-list-clause-number : goal.returns-else-held-list-clause-number
returns-else-held-list-clause-number c =
    let k = c.args.checked.now in
    let sane = c.in-Ok-true.ensures.there.0 c.in-Ok-true.field-0-test in
    let w = c.in-Ok-true.ensures.told in
    let m = met-told (λ x. x.list.now) (λ x. x.met) _ (λ x r m y h. h) (meant k.lent.collection) w.2 in
    rw c.departs_at.ensures.number (held-more k.lent k.passes c.args.list.now w.0 w.1 sane _ m.1 c.if-held-list.false).number

pub returns-else-held-list-clause-departs : goal.returns-else-held-list-clause-departs
returns-else-held-list-clause-departs c = λ z.
    let k = c.args.checked.now in
    let sane = c.in-Ok-true.ensures.there.0 c.in-Ok-true.field-0-test in
    let w = c.in-Ok-true.ensures.told in
    let m = met-told (λ x. x.list.now) (λ x. x.met) _ (λ x r m y h. h) (meant k.lent.collection) w.2 in
    rw c.departs_at.ensures.place (held-more k.lent k.passes c.args.list.now w.0 w.1 sane _ m.1 c.if-held-list.false).departs

pub departs_at-requires-in-Err : goal.departs_at-requires-in-Err
departs_at-requires-in-Err c =
    let k = c.args.checked.now in
    let w = c.in-Err.ensures.failed in
    let d = departed (λ x. x.list.now) (λ x. x.met) _ (λ x r m y h. h) (meant k.lent.collection) (λ x r m e y h. h.1) w.3 in
    omega (arith, (held-other k.lent k.passes c.args.list.now w.0 w.1 w.2 _ d).few, c.requires.few)

pub returns-in-Err-clause-number : goal.returns-in-Err-clause-number
returns-in-Err-clause-number c =
    let k = c.args.checked.now in
    let w = c.in-Err.ensures.failed in
    let d = departed (λ x. x.list.now) (λ x. x.met) _ (λ x r m y h. h) (meant k.lent.collection) (λ x r m e y h. h.1) w.3 in
    rw c.departs_at-in-Err.ensures.number (held-other k.lent k.passes c.args.list.now w.0 w.1 w.2 _ d).number

pub returns-in-Err-clause-departs : goal.returns-in-Err-clause-departs
returns-in-Err-clause-departs c = λ z.
    let k = c.args.checked.now in
    let w = c.in-Err.ensures.failed in
    let d = departed (λ x. x.list.now) (λ x. x.met) _ (λ x r m y h. h) (meant k.lent.collection) (λ x r m e y h. h.1) w.3 in
    rw c.departs_at-in-Err.ensures.place (held-other k.lent k.passes c.args.list.now w.0 w.1 w.2 _ d).departs
