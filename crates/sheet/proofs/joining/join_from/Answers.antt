-- Both sides.
use Rattle.rules.proofs.MadeLaws.{gets_then}
use Rattle.sheet.proofs.joining.join_from.Goals as goal

pub returns : goal.returns
returns c = gets_then c.lefts.ensures c.rights.ensures
