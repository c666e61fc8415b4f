-- `alive`: one state more.
use Rattle.std.proofs.Common.{arith}
use Rattle.walk.proofs.CoReachableLaws.{alive_start, alive_more}
use Rattle.walk.proofs.coreachable.alive.Goals as goal

pub loop-t-init : goal.loop-t-init
loop-t-init c = alive_start _ _

pub loop-t-preserved : goal.loop-t-preserved
loop-t-preserved c = alive_more _ _ _ _ _ _ c.loop-t.invariant (omega (arith, c.loop-t-test.true)) c.is_empty.ensures c.insert_if.ensures

pub returns : goal.returns
returns c = record {
  final = c.loop-t.invariant.final;
  onward = λ t b l p. c.loop-t.invariant.onward t b (omega (arith, c.loop-t-test.false)) p;
}
