-- `contains_number` meets its contract: the concept that is read has the number.
use Rattle.kinds.specs.Kinds.{number-concept}
use Rattle.sets.proofs.concepts.ConceptSet.contains_number.Goals as goal

pub returns : goal.returns
returns c = rw (c.read.ensures, number-concept c.args.number) at c.contains.ensures
