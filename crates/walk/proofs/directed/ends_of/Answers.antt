-- `ends_of`: none leads yet, then one state more.
use Rattle.std.proofs.Common.{◌≡◌, length, arith, rules}
use Rattle.kinds.specs.Kinds.{most_states}
use Rattle.walk.proofs.DirectedLaws.{ending_none, ending_more, ending_all}
use Rattle.walk.proofs.directed.ends_of.Goals as goal

pub loop-set-init : goal.loop-set-init
loop-set-init c = ending_none _ _

pub loop-set-preserved : goal.loop-set-preserved
loop-set-preserved c = ending_more _ _ _ _ c.loop-set.invariant c.union-out.ensures

pub returns : goal.returns
returns c =
    let e : length c.args.relation.now ≡ most_states = search rules in
    ending_all _ _ _ c.loop-set.invariant (omega (arith, c.loop-set-test.false))
