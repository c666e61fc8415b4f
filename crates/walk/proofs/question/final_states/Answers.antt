-- `final_states`: each turn puts in one state more, until none is left.
use Rattle.std.proofs.Common.{ap, ◌∙◌, refl, arith}
use Rattle.walk.proofs.FinalLaws.{finals_none, finals_more, finals_all}
use Rattle.walk.proofs.question.final_states.Goals as goal

pub loop-state-init : goal.loop-state-init
loop-state-init c =
    rw (c.into_iter-state-iterator.ensures.into_iter_gives, c.iter-state-items.ensures.numbers, c.iter-state-items.ensures.first)
    (refl, omega arith, finals_none _)

pub loop-state-preserved : goal.loop-state-preserved
loop-state-preserved c =
    let i = c.loop-state.invariant in
    let s = c.in-Some.ensures.steps in
    let v = rw i.0 at s in
    let e = v.0.is in
    let n = v.0.after in
    let h = v.0.inside in
    let p = c.insert.ensures in
    (ap (λ x. x.now) s.1 ∙ i.0, rw n (omega arith), rw n (finals_more _ _ _ _ i.2 (rw e at p)))

pub returns : goal.returns
returns c =
    let i = c.loop-state.invariant in
    let s = c.in-None.ensures.steps in
    let v = rw i.0 at s in
    finals_all _ _ _ _ i.1 v.0.0 i.2
