-- `visit`: what is in the set and was not followed is followed.
use Rattle.std.proofs.Common.{◌∙◌, sym, rules}
use Rattle.std.proofs.lemmas.Bool.{eqb-true}
use Rattle.walk.proofs.VisitLaws.{visited, visited_none}
use Rattle.walk.proofs.walk.visit.Goals as goal

pub returns-then-eq : goal.returns-then-eq
returns-then-eq c = visited_none c.args.guide.now _ _ _ c.requires.ready c.requires.long (eqb-true _ _ (sym c.eq.ensures ∙ c.if-eq.true))

pub returns : goal.returns
returns c =
    visited _ _ _ _ _ c.requires.ready c.requires.long c.requires.row c.with_loops-all.ensures
    (search rules) _ _ _ c.minus-new.ensures c.follow_all.ensures
