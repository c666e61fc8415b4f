-- The laws of ListingLaws: there is a list, and it is not long.
use Rattle.meaning.proofs.ListingLaws.{most-entries, lite-apart, lite-rounds, lite-listing, entry-fits, lite-length}
use Rattle.meaning.proofs.listing.listing.Goals as goal

pub returns : goal.returns
returns c = record {
  told_apart = lite-apart;
  by_round = lite-rounds;
  there = lite-listing;
  entries = entry-fits;
  length = lite-length;
  most = most-entries;
}
