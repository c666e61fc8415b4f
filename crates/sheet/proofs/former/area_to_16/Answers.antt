-- A byte shows that a state above 15 is marked; else the bytes stand where they stood.
use Rattle.std.specs.Prelude.{refl}
use Rattle.std.proofs.Common.{arith}
use Rattle.sheet.proofs.Laws.{not_so}
use Rattle.sheet.proofs.FormerLaws.{spread-moved, above-marks, marks-above}
use Rattle.sheet.proofs.former.area_to_16.Goals as goal

pub returns-then-marks_above-clause-ok : goal.returns-then-marks_above-clause-ok
returns-then-marks_above-clause-ok c = (
  λ e. absurd cc,
  λ w. absurd (w.below (above-marks _ _ w.long (λ i. omega (arith, c.type_inv.area i)) (c.marks_above.ensures.0 c.if-marks_above.true))),
)

pub returns-clause-ok : goal.returns-clause-ok
returns-clause-ok c =
    let long = c.are_long.ensures.0 c.if-not-are_long.false in (
      λ e. record {
        long = long;
        below = λ k. not_so _ c.marks_above.ensures c.if-marks_above.false (marks-above _ _ long (λ i. omega (arith, c.type_inv.area i)) k);
      },
      λ w. refl,
    )

pub returns-then-marks_above-clause-above : goal.returns-then-marks_above-clause-above
returns-then-marks_above-clause-above c =
    let long = c.are_long.ensures.0 c.if-not-are_long.false in
    let marks = above-marks _ _ long (λ i. omega (arith, c.type_inv.area i)) (c.marks_above.ensures.0 c.if-marks_above.true) in
    (λ e. record { long = long; above = marks }, λ w. refl)

pub returns-clause-above : goal.returns-clause-above
returns-clause-above c = (
  λ e. absurd cc,
  λ w. absurd (not_so _ c.marks_above.ensures c.if-marks_above.false (marks-above _ _ w.long (λ i. omega (arith, c.type_inv.area i)) w.above)),
)

pub returns-clause-moved : goal.returns-clause-moved
returns-clause-moved c =
    spread-moved _ _ c.gather.ensures (λ i. omega (arith, c.type_inv.stored i)) (λ i. omega (arith, c.type_inv.area i))
