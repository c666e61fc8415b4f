use Rattle.std.proofs.Common.{◌<◌, length, arith}
use Rattle.sorted.proofs.Dedups.{dedups-first, dedups-next, dedups-repeat}
use Rattle.sorted.proofs.tidied.drop_repeats.Goals as goal
use Rattle.sorted.proofs.tidied.drop_repeats.Goals.{then-kept-eq0, then-kept-eq0-via-then-kept-eq0, then-kept-eq0-via-else-kept-eq0+then-ne, else-kept-eq0+else-ne}

pub loop-k-preserved : goal.loop-k-preserved
loop-k-preserved g c =
    let i = c.loop-k.invariant in
    let inside : c.loop-k.k < length c.loop-k.records = omega (arith, i.long) in
    let is = c.index-records-k.is in
    elim c.if-kept-eq0.branch [
      | then-kept-eq0 w ↦ rw (w.records-is, w.kept-is) (elim w.then-kept-eq0.branch [
        | then-kept-eq0-via-then-kept-eq0 v ↦ dedups-first _ i inside is v.if-kept-eq0.true
        | then-kept-eq0-via-else-kept-eq0+then-ne v ↦ dedups-next _ i inside is _ v.if-kept-eq0.false v.if-ne.ensures
      ])
      | else-kept-eq0+else-ne w ↦ rw (w.records-is, w.kept-is) (dedups-repeat _ i inside is _ w.if-kept-eq0.false w.if-ne.ensures)
    ]
