-- From no mark, the new ones.
use Rattle.sheet.proofs.Laws.{are_new}
use Rattle.sheet.proofs.filtering.keep_new.Goals as goal

pub returns : goal.returns
returns c = are_new _ _ c.args.candidates.now _ _ c.clear.ensures c.put_new.ensures
