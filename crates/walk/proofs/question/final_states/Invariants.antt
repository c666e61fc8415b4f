-- `final_states`: the states before the next one are in the set.
use Rattle.std.proofs.Common.{◌≡◌, ◌≤◌, ◌/◌, length}
use Rattle.meaning.specs.Lent.{final_width}
use Rattle.sets.specs.Bits.{IsSetOf}
use Rattle.walk.specs.Finals.{IsFinalBelow}
use Rattle.walk.proofs.question.final_states.Given as goal

abbrev pub invariant-loop-state : goal.invariant-loop-state
invariant-loop-state l =
    (l.state-iterator.table.numbers.now ≡ l.fn.finals.numbers.now) × (l.state-iterator.next ≤ length l.fn.finals.numbers.now / final_width)
    × IsSetOf (IsFinalBelow l.fn.finals.numbers.now l.state-iterator.next) l.set.0
