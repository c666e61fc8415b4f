-- `join`: a union that is the same is not stored.
use Rattle.std.proofs.Common.{◌∙◌, sym, rules}
use Rattle.std.proofs.lemmas.Bool.{eqb-true, eqb-false}
use Rattle.walk.proofs.GrowLaws.{join_none, join_some}
use Rattle.walk.proofs.walk.join.Goals as goal

pub returns-then-eq : goal.returns-then-eq
returns-then-eq c = join_none _ _ _ _ c.union-all.ensures (eqb-true _ _ (sym c.eq.ensures ∙ c.if-eq.true))

pub returns : goal.returns
returns c = join_some _ _ _ _ c.union-all.ensures c.requires.ready c.requires.row (eqb-false _ _ (sym c.eq.ensures ∙ c.if-eq.false))
    (search rules)
