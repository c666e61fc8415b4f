-- `tell_picked`: the ask is there, and has the first of its place.
use Rattle.std.proofs.Common.{sym, ap, ◌∙◌, rules}
use Rattle.std.proofs.lemmas.Bool.{eqb-true, not-false}
use Rattle.kinds.specs.declared.Individual.{Individual}
use Rattle.walk.proofs.TellLaws.{tells_one, marks-right}
use Rattle.walk.proofs.asks.tell_picked.Goals as goal

pub returns : goal.returns
returns c =
    let e = c.in-Some.ensures in
    let m = c.requires in
    let same = eqb-true _ _ (not-false _ (sym c.ne.ensures ∙ c.if-ne.false)) in
    let f = ap (λ (x : Individual). x.0) (sym c.first.ensures) ∙ same in
    let r = marks-right c.args.asking.now.strides _ _ c.args.asking.now.question _ m.marked _ (search rules) c.in-Some.ask _
    c.is_among.result f c.hit_by-sources.ensures c.is_among.ensures in
    tells_one _ _ _ _ (search rules) e.0 (rw e.1 at r) (λ j q. q.0)
