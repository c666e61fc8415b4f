-- The bytes stand where they stand today, so the marks do.
use Rattle.std.proofs.Common.{arith}
use Rattle.sheet.proofs.FormerLaws.{spread-moved}
use Rattle.sheet.proofs.former.area_from_16.Goals as goal

pub returns-clause-moved : goal.returns-clause-moved
returns-clause-moved c = spread-moved _ _ c.spread.ensures (λ i. omega (arith, c.type_inv.stored i)) (λ i. omega (arith, c.type_inv.area i))
