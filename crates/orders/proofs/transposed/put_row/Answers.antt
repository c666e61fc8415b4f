-- `put_row` meets its contract: the row of the only member is its own, and a turn puts the concept into the row of one member.
use Rattle.std.proofs.Common.{rules, arith}
use Rattle.orders.proofs.RowLaws.{read_number, stored}
use Rattle.orders.proofs.TransposeLaws.{own_put, putting_more}
use Rattle.orders.proofs.transposed.put_row.Goals as goal

pub loop-above-preserved : goal.loop-above-preserved
loop-above-preserved c =
    let e = read_number c.read-below.result c.args.i c.read-below.ensures in
    let t = c.in-Some.ensures.steps in
    let g = c.loop-above.invariant in
    record {
      long = search rules;
      put = putting_more _ _ _ _ c.number.result _ _ _ g.put (rw c.number.ensures t)
          (stored c.loop-above.out c.number.result c.args.i _ (omega (arith, t.within, c.number.ensures, g.long)) c.requires
          (rw e at c.insert-in-loop-above.ensures));
    }

pub returns-then-eq : goal.returns-then-eq
returns-then-eq c =
    let e = read_number c.read-below.result c.args.i c.read-below.ensures in
    own_put c.args.i c.args.members.0 _ _ (search rules) c.requires
    (stored c.args.out.now c.args.i c.args.i _ (omega (arith, c.requires)) c.requires (rw e at c.insert.ensures))
