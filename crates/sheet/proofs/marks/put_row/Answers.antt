-- The pair is among the pairs, and the row is put.
use Rattle.std.proofs.Common.{arith}
use Rattle.sheet.proofs.Laws.{put_one, paired_put}
use Rattle.sheet.proofs.marks.put_row.Goals as goal

pub returns-clause-put : goal.returns-clause-put
returns-clause-put c = put_one _ _ _ _ (omega (arith, c.requires.from, c.requires.to, c.told-rows)) c.union.ensures

pub returns-clause-paired : goal.returns-clause-paired
returns-clause-paired c = paired_put _ _ c.requires.paired _ _ c.requires.from c.requires.to _
    (omega (arith, c.requires.from, c.told-pairs)) c.insert.ensures _ _
    (put_one _ _ _ _ (omega (arith, c.requires.from, c.requires.to, c.told-rows)) c.union.ensures)
