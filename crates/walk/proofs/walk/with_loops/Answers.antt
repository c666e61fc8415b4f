-- `with_loops`: the set grows by its image, or has it already.
use Rattle.std.proofs.Common.{◌∙◌, sym, arith, rules}
use Rattle.std.proofs.lemmas.Bool.{eqb-true, eqb-false}
use Rattle.walk.proofs.SetLaws.{union_more}
use Rattle.walk.proofs.ClosureLaws.{closure_start, closure_more, closure_end}
use Rattle.walk.proofs.walk.with_loops.Goals as goal

pub loop-more-init : goal.loop-more-init
loop-more-init c = closure_start _ _ (search rules)

pub returns-then-eq : goal.returns-then-eq
returns-then-eq c = closure_end _ _ _ _ _ c.loop-more.invariant c.led.ensures c.union-more.ensures
    (eqb-true _ _ (sym c.eq.ensures ∙ c.if-eq.true))

pub loop-more-smaller : goal.loop-more-smaller
loop-more-smaller c =
    omega (arith, union_more _ _ _ c.union-more.ensures, c.loop-more.invariant.small, eqb-false _ _ (sym c.eq.ensures ∙ c.if-eq.false))

pub loop-more-preserved : goal.loop-more-preserved
loop-more-preserved c = closure_more _ _ _ _ _ c.loop-more.invariant c.led.ensures c.union-more.ensures (search rules)
