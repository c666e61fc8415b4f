use Rattle.std.proofs.lemmas.Option.{IfSome_then}
use Rattle.std.proofs.lemmas.Result.{on_ok_weaker}
use Rattle.file.proofs.Served.{served-only, served-deeds, served-unspent, served-unlisted, served-former}
use Rattle.file.proofs.serve.Goals as goal

pub returns-clause-only : goal.returns-clause-only
returns-clause-only g c =
    on_ok_weaker c.serve.result (λ w. IfSome_then (g.S.Source.remaining c.args.source) w (λ input o. served-only o)) c.serve.ensures.written

pub returns-clause-unspent : goal.returns-clause-unspent
returns-clause-unspent g c =
    on_ok_weaker c.serve.result (λ w. IfSome_then (g.S.Source.remaining c.args.source) w (λ input o. served-unspent o)) c.serve.ensures.written

pub returns-clause-deeds : goal.returns-clause-deeds
returns-clause-deeds g c =
    on_ok_weaker c.serve.result (λ w. IfSome_then (g.S.Source.remaining c.args.source) w (λ input o. served-deeds o)) c.serve.ensures.written

pub returns-clause-list_left_out : goal.returns-clause-list_left_out
returns-clause-list_left_out g c =
    on_ok_weaker c.serve.result (λ w. IfSome_then (g.S.Source.remaining c.args.source) w (λ input o. served-unlisted o)) c.serve.ensures.written

pub returns-clause-former : goal.returns-clause-former
returns-clause-former g c =
    on_ok_weaker c.serve.result (λ w. IfSome_then (g.S.Source.remaining c.args.source) w (λ input o. served-former o)) c.serve.ensures.written
