-- One state more.
use Rattle.std.proofs.Common.{arith}
use Rattle.sheet.proofs.Laws.{member_more, put_low, put_one}
use Rattle.sheet.proofs.marks.put_to.Goals as goal

pub loop-t-preserved : goal.loop-t-preserved
loop-t-preserved c =
    let low = c.in-Some.ensures.steps.within in
    let long = c.loop-t.invariant.did.long in
    let put = put_one _ _ _ _ (omega (arith, long, low, c.requires, c.told-rows)) c.union.ensures in
    member_more _ c.loop-t.invariant c.in-Some.ensures.steps (put_low _ _ _ low put)
