-- From no loop of these roles, all.
use Rattle.sheet.proofs.Laws.{gathered}
use Rattle.sheet.proofs.through.gather.Goals as goal

pub returns : goal.returns
returns c = gathered _ _ _ _ _ c.clear_loops.ensures c.gather_all.ensures
