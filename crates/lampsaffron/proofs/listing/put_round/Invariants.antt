-- The entries of the marks that have come are put, and the others are to come.
use Rattle.std.specs.Prelude.{◌≡◌, ◌++◌}
use Rattle.lampsaffron.specs.Front.{Puts}
use Rattle.lampsaffron.specs.Listing.{entries_in, list_numbers}
use Rattle.lampsaffron.proofs.listing.put_round.Given as goal

abbrev pub invariant-loop-first : goal.invariant-loop-first
invariant-loop-first l = record {
  marks : l.marks ≡ l.yielded ++ l.first-iterator;
  put : Puts (list_numbers (entries_in l.round l.yielded)) l.fn.row l.fn.told l.row l.told;
}
