use Rattle.std.proofs.lemmas.Result.{on_ok_weaker, IfErr-weaker}
use Rattle.fair_copy.proofs.Putting.{passed_on}
use Rattle.listing.proofs.Reported.{some-list, list-so, typed-then, told}
use Rattle.listing.proofs.report.ListerReport.put.Goals as goal

pub put_list-requires : goal.put_list-requires
put_list-requires g c = typed-then _ _ c.put_copy.ensures.ready c.requires.begun c.requires.read

pub returns-in_err-put_copy-clause-err : goal.returns-in_err-put_copy-clause-err
returns-in_err-put_copy-clause-err g c =
    let typed = typed-then _ _ c.put_copy.ensures.ready c.requires.begun c.requires.read in
    passed_on c.from_residual.result _ _ c.from_residual.ensures.1
    (told _ _ c.put_copy.ensures.ready c.requires.begun
    (some-list _ typed _ (λ x. g.met.T.Taker.before _ _ _ x _ c.in_err-put_copy.ensures.err)))

pub returns-clause-ok : goal.returns-clause-ok
returns-clause-ok g c =
    on_ok_weaker c.put_list.result
    (λ l. told _ _ c.put_copy.ensures.ready c.requires.begun
    (list-so (λ x t. g.met.T.Taker.more _ _ _ _ x c.in_ok-put_copy.ensures.ok t) l))
    c.put_list.ensures.ok

pub returns-clause-err : goal.returns-clause-err
returns-clause-err g c =
    IfErr-weaker c.put_list.result _ _
    (λ e l. told _ _ c.put_copy.ensures.ready c.requires.begun
    (list-so (λ x t. g.met.T.Taker.after _ _ _ _ x e c.in_ok-put_copy.ensures.ok t) l))
    c.put_list.ensures.err
