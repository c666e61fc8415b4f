-- `close` meets its contract: a value of its type is square, and a turn closes through one number more.
use Rattle.std.proofs.Common.{rules}
use Rattle.laws.specs.Truth.{test-false}
use Rattle.sets.specs.Bits.{role_width}
use Rattle.orders.proofs.Close.{closing_start, closing_more, closing_idle}
use Rattle.orders.proofs.MarkLaws.{square}
use Rattle.orders.proofs.roles.close.Goals.{then-contains, else-contains}
use Rattle.orders.proofs.roles.close.Goals as goal

pub reflexive-out-requires : goal.reflexive-out-requires
reflexive-out-requires c = square role_width _ _ (search rules) c.well_formed.0.1.1

pub loop-k-preserved : goal.loop-k-preserved
loop-k-preserved c =
    let k = c.loop-k.k in
    elim c.if-contains.branch [
      | then-contains w ↦
          rw w.out-is
          (closing_more _ _ c.args.m c.loop-k.out k c.loop-k.invariant w.pivot-next.result c.loop-k-test.true w.pivot-next.ensures.square
          w.pivot-next.ensures.step)
      | else-contains w ↦
          rw w.out-is
          (closing_idle _ _ c.args.m c.loop-k.out k c.loop-k.invariant c.loop-k-test.true
          (λ p. test-false c.contains.ensures w.if-contains.false ((c.intersection-pivots.ensures.member k).1 p)))
    ]

pub loop-k-init : goal.loop-k-init
loop-k-init c = closing_start _ _ c.args.m c.reflexive-out.result c.reflexive-out.ensures.square c.reflexive-out.ensures.marks c.requires
