-- A candidate, not in the sheet, that may be marked.
use Rattle.sheet.proofs.Laws.{new_is}
use Rattle.sheet.proofs.filtering.new_row.Goals as goal

pub returns : goal.returns
returns c = new_is _ _ _ _ _ _ _ _ c.minus-absent.ensures c.markable-may.ensures c.intersection.ensures
