-- `contains` meets its contract: a number that has no place is no member.
use Rattle.std.proofs.Common.{arith, rules}
use Rattle.sets.specs.Bits.{state_width}
use Rattle.sets.proofs.Laws.{absent}
use Rattle.sets.proofs.states.StateSet.contains.Goals as goal

pub returns-else-k-lt-NUMBERS : goal.returns-else-k-lt-NUMBERS
returns-else-k-lt-NUMBERS c = absent state_width c.args.self.0 c.args.member.0 (search rules) (omega arith)
