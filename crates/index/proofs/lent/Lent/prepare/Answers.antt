-- `prepare`: the sheet of what was prepared.
use Rattle.index.proofs.lent.Lent.prepare.Goals as goal

pub returns-clause-sheet : goal.returns-clause-sheet
returns-clause-sheet c = rw c.in-Ok.ensures.own c.in-Ok.ensures.sheet

pub returns-clause-deeds : goal.returns-clause-deeds
returns-clause-deeds c = rw c.in-Ok.ensures.own c.in-Ok.ensures.deeds
