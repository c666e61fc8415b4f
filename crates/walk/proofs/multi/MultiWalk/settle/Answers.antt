-- `settle`: one word is stored, and its node may be behind no longer.
use Rattle.std.proofs.Common.{sym, rules}
use Rattle.std.proofs.lemmas.Bool.{eqb-true}
use Rattle.std.proofs.lemmas.Nat.{or_lt}
use Rattle.walk.proofs.JumpLaws.{settled_one}
use Rattle.walk.proofs.multi.MultiWalk.settle.Goals as goal

pub returns : goal.returns
returns c =
    settled_one _ _ _ _ _ _ c.requires.ready c.requires.row c.if-t-ge-MOST.false c.requires.part
    (or_lt 128 _ _ (c.requires.ready.fits c.args.b c.args.t.0) (search rules)) _ (λ e. eqb-true _ _ e) c.catch_up.ensures _
    (λ e. sym (eqb-true _ _ e)) c.fill.ensures
