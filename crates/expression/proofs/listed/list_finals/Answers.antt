use Rattle.std.proofs.Common.{arith}
use Rattle.expression.proofs.ListingLaws.{finals_none, finals_on, finals_off}
use Rattle.expression.proofs.listed.list_finals.Goals as goal
use Rattle.expression.proofs.listed.list_finals.Goals.{then-contains, else-contains}

pub loop-k-init : goal.loop-k-init
loop-k-init c = record { within = omega arith; listed = finals_none _ }

pub loop-k-preserved : goal.loop-k-preserved
loop-k-preserved c =
    let i = c.loop-k.invariant in
    let within = i.within in
    elim c.if-contains.branch [
      | then-contains w ↦
          rw (w.finals-is, w.used-is) (record {
            within = omega arith;
            listed = finals_on _ _ (c.contains.ensures.0 w.if-contains.true) _ _ (omega arith) i.listed;
          })
      | else-contains w ↦
          rw (w.finals-is, w.used-is) (record { within = omega arith; listed = finals_off _ _ (λ h. let k = c.contains.ensures.1 h in cc) i.listed })
    ]
