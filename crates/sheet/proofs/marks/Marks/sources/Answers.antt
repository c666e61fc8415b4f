-- As relations have them.
use Rattle.sheet.proofs.marks.Marks.sources.Goals as goal

pub returns : goal.returns
returns c = record { has = c.starts_of.ensures }
