use Rattle.listing.proofs.Marks.{none_put, more_put, failed_put, whole_put}
use Rattle.fair_copy.proofs.Putting.{passed_on}
use Rattle.listing.proofs.report.put_round.Goals as goal

pub loop-from-init : goal.loop-from-init
loop-from-init g c =
    rw (c.into_iter-from-iterator.ensures.into_iter_gives, c.iter-from-items.ensures) (none_put _ _ _ _ _ (g.met.T.Taker.none _))

pub loop-from-preserved : goal.loop-from-preserved
loop-from-preserved g c =
    more_put _ _ _ _ _ _ _ c.loop-from.invariant _ _ _ _ c.in-Some.ensures.steps _ c.in_ok-put_frame.ensures.ok
    (λ x y p q. g.met.T.Taker.more _ _ _ x y p q)

pub returns-in_err-put_frame-clause-err : goal.returns-in_err-put_frame-clause-err
returns-in_err-put_frame-clause-err g c =
    passed_on c.from_residual.result _ _ c.from_residual.ensures.1
    (failed_put _ _ _ _ _ _ _ c.loop-from.invariant _ _ _ _ c.in-Some.ensures.steps _ _ c.in_err-put_frame.ensures.err
    (λ x y p q. g.met.T.Taker.after _ _ _ x y _ p q) (λ x y p. g.met.T.Taker.before _ _ x y _ p))

pub returns-clause-ok : goal.returns-clause-ok
returns-clause-ok g c = whole_put _ _ _ _ _ _ _ c.loop-from.invariant c.in-None.ensures.steps.0
