-- `members`: none is marked at first, and those that are reach what x reaches.
use Rattle.std.proofs.Common.{refl, ◌∙◌, arith, length-set}
use Rattle.walk.proofs.ComponentLaws.{members_none, members_more}
use Rattle.walk.proofs.components.members.Goals as goal

pub loop-f-init : goal.loop-f-init
loop-f-init c = (refl, members_none _ _ _ 255)

pub loop-f-preserved : goal.loop-f-preserved
loop-f-preserved c =
    let i = c.loop-f.invariant in
    let e = i.0 in
    let l = c.loop-f-test.true in (
      length-set c.loop-f.members c.loop-f.f c.contains.result
          ∙ e,
      members_more _ _ _ _ _ c.requires.ahead c.requires.behind _ _ _ _ i.1 (omega arith) c.intersection.ensures c.contains.ensures,
    )
