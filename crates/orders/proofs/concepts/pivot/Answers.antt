-- `pivot` meets its contract: a row that marks k is joined with the row of k, and another one stays.
use Rattle.sets.proofs.RowLaws.{marked, unmarked}
use Rattle.orders.proofs.RowLaws.{read_number, joined, left}
use Rattle.orders.proofs.concepts.pivot.Goals.{then-contains, else-contains}
use Rattle.orders.proofs.concepts.pivot.Goals as goal

pub loop-i-preserved : goal.loop-i-preserved
loop-i-preserved c =
    let k = c.args.k in
    let i = c.loop-i.i in
    let e = read_number c.read-by.result k c.read-by.ensures in
    let s = rw e at c.contains.ensures in
    elim c.if-contains.branch [
      | then-contains w ↦
          rw w.rows-is
          (joined c.args.rows.now c.loop-i.rows k i c.loop-i.invariant c.loop-i-test.true w.union.result
          (marked _ k c.contains.result s w.if-contains.true) w.union.ensures)
      | else-contains w ↦
          rw w.rows-is
          (left c.args.rows.now c.loop-i.rows k i c.loop-i.invariant c.loop-i-test.true
          (unmarked _ k c.contains.result s w.if-contains.false))
    ]
