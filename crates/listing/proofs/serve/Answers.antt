use Rattle.std.proofs.lemmas.Option.{IfSome_then}
use Rattle.std.proofs.lemmas.Result.{on_ok_weaker}
use Rattle.listing.proofs.Keeping.{kept_one, kept_only}
use Rattle.listing.proofs.serve.Goals as goal

pub returns-clause-written : goal.returns-clause-written
returns-clause-written g c =
    on_ok_weaker c.serve.result (λ w. IfSome_then (g.S.Source.remaining c.args.source) w (λ input o. kept_one o)) c.serve.ensures.written

pub returns-clause-only : goal.returns-clause-only
returns-clause-only g c =
    on_ok_weaker c.serve.result (λ w. IfSome_then (g.S.Source.remaining c.args.source) w (λ input o. kept_only o)) c.serve.ensures.written
