-- `contains` meets its contract: a number that has no place is no member.
use Rattle.std.proofs.Common.{arith, rules}
use Rattle.sets.proofs.Laws.{absent}
use Rattle.sets.proofs.concepts.ConceptSet.contains.Goals as goal

pub returns-else-k-lt-NUMBERS : goal.returns-else-k-lt-NUMBERS
returns-else-k-lt-NUMBERS c = rw (← c.number-k.ensures) (absent 128 c.args.self.0 c.number-k.result (search rules) (omega arith))
