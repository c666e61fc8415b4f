use Rattle.fair_copy.proofs.Putting.{ArePut}
use Rattle.fair_copy.proofs.report.put_table.Given as goal

abbrev pub invariant-loop-one : goal.invariant-loop-one
invariant-loop-one g l =
    ArePut g.T.Taker.takes g.K.Record.Fields.WIDTH g.K.Record.Fields.read g.K.Framed.frame l.fn.to l.to l.fn.table.numbers
    l.one-iterator.table.numbers l.one-iterator.next
