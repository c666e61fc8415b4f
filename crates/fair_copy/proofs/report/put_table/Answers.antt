use Rattle.std.specs.Prelude.{[], ◌∷◌}
use Rattle.fair_copy.specs.Copy.{frames_text}
use Rattle.fair_copy.proofs.Putting.{passed_on, none_put, more_put, failed_put, whole_put}
use Rattle.fair_copy.proofs.report.put_table.Goals as goal

pub loop-one-init : goal.loop-one-init
loop-one-init g c =
    let z = c.into_iter-one-iterator.ensures.into_iter_gives in
    rw z (none_put _ g.T.Taker.fails _ _ _ _ _ _ _ (g.met.T.Taker.none _) c.iter-one-items.ensures.numbers c.iter-one-items.ensures.first)

pub loop-one-preserved : goal.loop-one-preserved
loop-one-preserved g c =
    let s = c.in-Some.ensures.steps in
    let line = rw c.frame.ensures at c.in_ok-put_frame.ensures.ok in
    more_put _ g.T.Taker.fails _ _ _ _ _ _ _ _ c.loop-one.invariant _ s.0.is _ _ _ s.0.inside s.0.after s.1 line
    (λ x y p q. g.met.T.Taker.more _ _ _ x y p q)

pub returns-in_err-put_frame-clause-err : goal.returns-in_err-put_frame-clause-err
returns-in_err-put_frame-clause-err g c =
    let s = c.in-Some.ensures.steps in
    let line : g.T.Taker.fails c.loop-one.to (frames_text
    (g.K.Framed.frame c.in-Some.one ∷ [])) c.in_err-put_frame.field-0.0 c.put_frame.new.to =
    rw (← c.frame.ensures) c.in_err-put_frame.ensures.err in
    passed_on c.from_residual.result _ _ c.from_residual.ensures.1
    (failed_put g.T.Taker.takes g.T.Taker.fails _ _ _ _ _ _ _ _ c.loop-one.invariant _ s.0.is _ _ s.0.inside line
    (λ x y p q. g.met.T.Taker.after _ _ _ x y _ p q) (λ x y p. g.met.T.Taker.before _ _ x y _ p))

pub returns-clause-ok : goal.returns-clause-ok
returns-clause-ok g c = whole_put _ g.T.Taker.fails _ _ _ _ _ _ _ _ c.loop-one.invariant c.in-None.ensures.steps.0.0
