-- `leave`: where an area has another length there is nothing to say.
use Rattle.std.proofs.lemmas.Bool.{false≢true}
use Rattle.index.proofs.work.leave.Goals as goal

pub returns-in_default-as_mut_array-clause-first : goal.returns-in_default-as_mut_array-clause-first
returns-in_default-as_mut_array-clause-first c = λ a. absurd (false≢true (c.in_default-as_mut_array.ensures.variant.1 a.spare))
