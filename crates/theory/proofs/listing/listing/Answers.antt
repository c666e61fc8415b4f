-- The laws of ListingLaws, of the list.
use Rattle.theory.proofs.ListingLaws.{rounds-listing, listing-there, listing-once, listing-in-order, entry-once, listing-length}
use Rattle.theory.proofs.listing.listing.Goals as goal

pub returns : goal.returns
returns g c = let N = g.N.AnyNumbered.numbered in record {
  of_rounds = rounds-listing N;
  there = listing-there N;
  once = listing-once N;
  in_order = listing-in-order N;
  entry_once = entry-once N;
  length = λ k l h. listing-length N l h k;
}
