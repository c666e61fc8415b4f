-- `break_in` meets its contract: it is enough to look at the members that are left sides.
use Rattle.std.proofs.Common.{rules}
use Rattle.clash.proofs.ConceptLaws.{row_broken}
use Rattle.clash.proofs.concepts.ConceptConflicts.break_in.Goals as goal

pub returns : goal.returns
returns c = row_broken _ _ _ _ _ _ _ c.requires.conflicts c.requires.part c.intersection.ensures (search rules) c.some_meets.ensures
