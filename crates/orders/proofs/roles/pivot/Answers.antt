-- `pivot` meets its contract: a row that marks k is joined with the row of k, and another one stays.
use Rattle.sets.specs.Bits.{role_width}
use Rattle.orders.proofs.Close.{joins, stays}
use Rattle.orders.proofs.roles.pivot.Goals.{then-m-i, else-m-i}
use Rattle.orders.proofs.roles.pivot.Goals as goal

pub loop-i-preserved : goal.loop-i-preserved
loop-i-preserved c =
    let k = c.args.k in
    let i = c.loop-i.i in
    elim c.if-m-i.branch [
      | then-m-i w ↦
          rw w.m-is
          (joins role_width c.args.m _ k c.loop-i.m i c.loop-i.invariant w.join_row.new.row c.loop-i-test.true w.join_row.ensures.long
          w.if-m-i.true w.join_row.ensures.marks)
      | else-m-i w ↦ rw w.m-is (stays role_width c.args.m _ k c.loop-i.m i c.loop-i.invariant c.loop-i-test.true w.if-m-i.false)
    ]
