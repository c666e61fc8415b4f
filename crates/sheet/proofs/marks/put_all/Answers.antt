-- The pairs are the old ones, and those of the rows that are put.
use Rattle.std.proofs.Common.{arith, rules}
use Rattle.sets.specs.Bits.{state_width}
use Rattle.sets.proofs.Laws.{past}
use Rattle.sheet.proofs.Laws.{paired_all}
use Rattle.sheet.proofs.marks.put_all.Goals as goal

pub returns-clause-paired : goal.returns-clause-paired
returns-clause-paired c =
    paired_all _ _ _ _ _ _ _ c.requires.paired c.requires.from
    (λ t h. past state_width c.args.to.0 t (search rules) h)
    (omega (arith, c.requires.from, c.told-pairs)) c.union.ensures c.put_to.ensures
