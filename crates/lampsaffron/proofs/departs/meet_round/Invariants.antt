-- The entries of the marks that have come were met, and the others are to come.
use Rattle.std.specs.Prelude.{◌≡◌, ◌++◌}
use Rattle.lampsaffron.specs.Listing.{entries_in}
use Rattle.lampsaffron.specs.Departs.{Meets}
use Rattle.lampsaffron.proofs.departs.meet_round.Given as goal

abbrev pub invariant-loop-mark : goal.invariant-loop-mark
invariant-loop-mark l = record {
  marks : l.marks ≡ l.yielded ++ l.mark-iterator;
  met : Meets l.list l.fn.met (entries_in l.round l.yielded) l.met;
}
