use Rattle.std.proofs.Common.{◌≡◌, ◌+◌, eqb, slice_index_or, rules, arith}
use Rattle.laws.specs.Count.{bit}
use Rattle.expression.proofs.DepthLaws.{scan-start, scan-more, scan-found, bit-on, bit-off}
use Rattle.expression.proofs.marks.is_too_deep.Goals as goal
use Rattle.expression.proofs.marks.is_too_deep.Goals.{then-mark, else-mark, then-mark-2, else-mark-2}

pub loop-mark-init : goal.loop-mark-init
loop-mark-init c = scan-start _

pub returns-then-opened-closed : goal.returns-then-opened-closed
returns-then-opened-closed c =
    let p : c.if-mark.opened ≡ c.loop-mark.opened + bit (eqb (slice_index_or c.args.marks.now c.loop-mark.mark-index 0) 0x80) =
    elim c.if-mark.branch [
      | then-mark w ↦ omega (arith, w.opened-is, bit-on w.if-mark.true)
      | else-mark w ↦ omega (arith, w.opened-is, bit-off w.if-mark.false)
    ] in
    let q : c.if-mark-2.closed ≡ c.loop-mark.closed + bit (eqb (slice_index_or c.args.marks.now c.loop-mark.mark-index 0) 0x81) =
    elim c.if-mark-2.branch [
      | then-mark-2 w ↦ omega (arith, w.closed-is, bit-on w.if-mark-2.true)
      | else-mark-2 w ↦ omega (arith, w.closed-is, bit-off w.if-mark-2.false)
    ] in
    let d = scan-found _ _ _ _ _ _ c.loop-mark.invariant c.loop-mark-test.true p q (omega arith) in
    (λ h. d, λ h. search rules)

pub loop-mark-preserved : goal.loop-mark-preserved
loop-mark-preserved c =
    let p : c.if-mark.opened ≡ c.loop-mark.opened + bit (eqb (slice_index_or c.args.marks.now c.loop-mark.mark-index 0) 0x80) =
    elim c.if-mark.branch [
      | then-mark w ↦ omega (arith, w.opened-is, bit-on w.if-mark.true)
      | else-mark w ↦ omega (arith, w.opened-is, bit-off w.if-mark.false)
    ] in
    let q : c.if-mark-2.closed ≡ c.loop-mark.closed + bit (eqb (slice_index_or c.args.marks.now c.loop-mark.mark-index 0) 0x81) =
    elim c.if-mark-2.branch [
      | then-mark-2 w ↦ omega (arith, w.closed-is, bit-on w.if-mark-2.true)
      | else-mark-2 w ↦ omega (arith, w.closed-is, bit-off w.if-mark-2.false)
    ] in
    scan-more _ _ _ _ _ _ c.loop-mark.invariant c.loop-mark-test.true p q (λ h. omega arith)
