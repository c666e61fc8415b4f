-- The laws of ListingLaws, of the marks that first stand in each round.
use Rattle.theory.proofs.ListingLaws.{first-once, first-zero, first-next, marks-once, rounds-once, rounds-there, counts-by-round}
use Rattle.theory.proofs.listing.by_round.Goals as goal

pub returns : goal.returns
returns g c = let N = g.N.AnyNumbered.numbered in record {
  first_once = first-once N;
  first_zero = first-zero N;
  first_next = first-next N;
  marks_once = marks-once N;
  rounds_once = rounds-once N;
  rounds_there = rounds-there N;
  counts = counts-by-round N;
}
