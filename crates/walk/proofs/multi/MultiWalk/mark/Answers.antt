-- `mark`: a word that is the same is not stored.
use Rattle.std.proofs.Common.{rules}
use Rattle.std.proofs.lemmas.Bool.{eqb-true}
use Rattle.std.proofs.lemmas.Nat.{or_lt}
use Rattle.walk.proofs.MarkLaws.{mark_none, mark_some}
use Rattle.walk.proofs.multi.MultiWalk.mark.Goals as goal

pub returns-then-new-old : goal.returns-then-new-old
returns-then-new-old c = mark_none _ _ _ _ c.requires.ready c.if-new-old.true

pub returns : goal.returns
returns c =
    mark_some _ _ _ _ _ _ c.requires.ready c.requires.row c.if-t-ge-MOST.false c.if-new-old.false c.requires.part
    (or_lt 128 _ _ (c.requires.ready.fits c.args.b c.args.t.0) (search rules)) c.with_state.ensures (search rules) _
    (λ e. eqb-true _ _ e) c.fill.ensures
