-- Round 0, and what the first round adds.
use Rattle.sheet.proofs.Theory.{first_holds, first_next}
use Rattle.sheet.proofs.closing.Closing.start.Goals as goal

pub returns : goal.returns
returns c = let f = c.begin.ensures.first in record { sheet = first_holds c.args.rows.now _ _ f; delta = first_next c.args.rows.now _ _ f }
