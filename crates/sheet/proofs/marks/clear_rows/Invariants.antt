-- The rows of the states that are taken are cleared.
use Rattle.sets.specs.Bits.{Has}
use Rattle.sets.specs.Relations.{states_at}
use Rattle.sets.proofs.Gathering.{Over}
use Rattle.sheet.specs.Pairs.{AnyOf, IsPair, Drops}
use Rattle.sheet.proofs.marks.clear_rows.Given as goal

abbrev pub invariant-loop-s : goal.invariant-loop-s
invariant-loop-s l = Over l.initial.s-iterator.rest.0 l.s-iterator.rest.0
    (λ D. Drops (AnyOf D (λ s. AnyOf (Has (states_at l.pairs s)) (IsPair s))) l.fn.rows l.rows)
