-- There is no candidate.
use Rattle.sheet.proofs.closing.Closing.new.Goals as goal

pub invariant_of-result : goal.invariant_of-result
invariant_of-result c = record { blank = c.none-3.ensures }
