use Rattle.std.proofs.lemmas.Result.{on_ok_weaker, IfErr-weaker}
use Rattle.file.proofs.Settling.{settled-tells, settled-fails}
use Rattle.file.proofs.Turns.{passed_on}
use Rattle.file.proofs.replies.RepliesReport.put.Goals as goal

pub returns-in_err-settle-clause-err : goal.returns-in_err-settle-clause-err
returns-in_err-settle-clause-err g c =
    passed_on c.from_residual.result _ _ c.from_residual.ensures.1
    (settled-fails c.args.file.now _ (λ x y t. g.met.T.Taker.before _ _ x y _ t) c.in_err-settle.ensures.err)

pub returns-clause-ok : goal.returns-clause-ok
returns-clause-ok g c =
    on_ok_weaker c.put_replies.result
    (λ a. settled-tells c.args.file.now _ _ _ (λ x y s t. g.met.T.Taker.more _ _ _ x y s t) c.in_ok-settle.ensures.ok a) c.put_replies.ensures.ok

pub returns-clause-err : goal.returns-clause-err
returns-clause-err g c =
    IfErr-weaker c.put_replies.result _ _
    (λ e a. settled-tells c.args.file.now _ _ _ (λ x y s t. g.met.T.Taker.after _ _ _ x y e s t) c.in_ok-settle.ensures.ok a)
    c.put_replies.ensures.err
