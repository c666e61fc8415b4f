-- The rows to the states that are taken are cleared.
use Rattle.sets.proofs.Gathering.{Over}
use Rattle.sheet.specs.Pairs.{AnyOf, IsPair, Drops}
use Rattle.sheet.proofs.marks.clear_from.Given as goal

abbrev pub invariant-loop-t : goal.invariant-loop-t
invariant-loop-t l = Over l.fn.to.0 l.t-iterator.rest.0 (λ D. Drops (AnyOf D (IsPair l.s)) l.fn.rows l.rows)
