use Rattle.std.proofs.Common.{arith}
use Rattle.expression.proofs.ListingLaws.{steps_none, steps_on, steps_off}
use Rattle.expression.proofs.listed.list_steps.Goals as goal
use Rattle.expression.proofs.listed.list_steps.Goals.{then-contains, else-contains}

pub loop-place-init : goal.loop-place-init
loop-place-init c = record { within = omega arith; listed = steps_none _ _ }

pub loop-place-preserved : goal.loop-place-preserved
loop-place-preserved c =
    let i = c.loop-place.invariant in
    let within = i.within in
    elim c.if-contains.branch [
      | then-contains w ↦
          rw (w.steps-is, w.used-is) (record {
            within = omega arith;
            listed = steps_on _ _ _ (c.contains.ensures.0 w.if-contains.true) i.listed w.numbers-record_of.ensures w.put.ensures;
          })
      | else-contains w ↦
          rw (w.steps-is, w.used-is) (record { within = omega arith; listed = steps_off _ _ _ (λ h. let k = c.contains.ensures.1 h in cc) i.listed })
    ]
