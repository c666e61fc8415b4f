-- `pack` meets its contract: a turn packs one row.
use Rattle.orders.proofs.RowLaws.{packed_start, packed_more}
use Rattle.orders.proofs.roles.pack.Goals as goal

pub loop-i-init : goal.loop-i-init
loop-i-init c = packed_start c.args.m.now

pub loop-i-preserved : goal.loop-i-preserved
loop-i-preserved c = packed_more c.args.m.now c.loop-i.out c.loop-i.i c.pack_row_of.result c.loop-i.invariant c.loop-i-test.true
    c.pack_row_of.ensures
