-- The rows to the states that are taken are counted.
use Rattle.sets.specs.Relations.{states_at}
use Rattle.sheet.proofs.Laws.{Counted}
use Rattle.sheet.proofs.marks.Marks.count_from.Given as goal

abbrev pub invariant-loop-t : goal.invariant-loop-t
invariant-loop-t l = Counted l.self.rows l.s (states_at l.self.pairs l.s) l.t-iterator.rest.0 l.n
