-- `work_out`: the number by the rounds, and the row by what was told.
use Rattle.std.specs.Prelude.{◌++◌}
use Rattle.std.proofs.Common.{arith, length-append}
use Rattle.lampsaffron.proofs.Front.{puts-front, put-told, no-place}
use Rattle.lampsaffron.proofs.Rounds.{number-none, number-has, put_count, counts-put, counts-long, count-is}
use Rattle.index.proofs.ToldOnce.{told-counts, told-most}
use Rattle.lampsaffron.proofs.marks.work_out.Goals as goal

pub unreachable-requires : goal.unreachable-requires
unreachable-requires c =
    let w = c.in-Err.ensures.failed in
    let most = told-most _ _ (told-counts _ _ w.2) in
    no-place put_count (λ x. x.counts.now) (λ x. x.told) (λ x. x.counts.ghost_name) _ (λ x r m y k. k)
    (λ x r m e y k. rw (count-is r _ k.0) (let l = k.1 in omega arith)) c.requires.none w.3
    (rw (counts-put w.0) (omega (arith, most, counts-long w.0, counts-long (w.0 ++ w.1), length-append w.0 w.1, c.requires.room)))

pub returns-in-Ok-rounds-clause-same : goal.returns-in-Ok-rounds-clause-same
returns-in-Ok-rounds-clause-same c =
    let w = c.in-Ok.ensures.told in
    (put-told put_count (λ x. x.counts.now) (λ x. x.told) (λ x. x.counts.ghost_name) _ (λ x r m y k. k) w.2).0

pub returns-in-Ok-rounds-clause-number : goal.returns-in-Ok-rounds-clause-number
returns-in-Ok-rounds-clause-number c = number-has _ _ c.requires.room _ (rw c.in-Ok.ensures.own at c.in-Ok-rounds.ensures.needed)

pub returns-in-Ok-rounds-clause-told : goal.returns-in-Ok-rounds-clause-told
returns-in-Ok-rounds-clause-told c =
    let w = c.in-Ok.ensures.told in
    let h = put-told put_count (λ x. x.counts.now) (λ x. x.told) (λ x. x.counts.ghost_name) _ (λ x r m y k. k) w.2 in
    (_, told-counts _ _ w.1, rw (← counts-put w.0) (puts-front (rw c.requires.none at h.1)))

pub returns-in-Err-rounds-clause-same : goal.returns-in-Err-rounds-clause-same
returns-in-Err-rounds-clause-same c =
    let w = c.in-Ok.ensures.told in
    (put-told put_count (λ x. x.counts.now) (λ x. x.told) (λ x. x.counts.ghost_name) _ (λ x r m y k. k) w.2).0

pub returns-in-Err-rounds-clause-number : goal.returns-in-Err-rounds-clause-number
returns-in-Err-rounds-clause-number c =
    rw c.number.ensures.number (number-none _ _ c.requires.fits c.requires.room (rw c.in-Ok.ensures.own at c.in-Err-rounds.ensures.none))

pub returns-in-Err-rounds-clause-told : goal.returns-in-Err-rounds-clause-told
returns-in-Err-rounds-clause-told c =
    let w = c.in-Ok.ensures.told in
    let h = put-told put_count (λ x. x.counts.now) (λ x. x.told) (λ x. x.counts.ghost_name) _ (λ x r m y k. k) w.2 in
    (_, told-counts _ _ w.1, rw (← counts-put w.0) (puts-front (rw c.requires.none at h.1)))
