-- Where no pair was, no mark was.
use Rattle.std.proofs.Common.{arith}
use Rattle.kinds.specs.Kinds.{most_states}
use Rattle.sheet.proofs.Laws.{all_dropped, blank_paired}
use Rattle.sheet.proofs.marks.clear_marks.Goals as goal

pub returns-clause-rows : goal.returns-clause-rows
returns-clause-rows c = all_dropped _ _ _ c.requires (omega (arith, c.told-rows)) c.clear_rows.ensures

pub returns-clause-paired : goal.returns-clause-paired
returns-clause-paired c = blank_paired _ most_states (all_dropped _ _ _ c.requires (omega (arith, c.told-rows)) c.clear_rows.ensures)
