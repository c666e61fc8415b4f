-- The laws of ListingLaws: what the list tells.
use Rattle.meaning.proofs.ListingLaws.{lite-after, lite-closed, lite-last, lite-area, lite-standing, path↔list, ask↔list}
use Rattle.meaning.proofs.listing.from_list.Goals as goal

pub returns : goal.returns
returns c = record {
  sheet = lite-after;
  closed = lite-closed;
  rounds = lite-last;
  area = lite-area;
  standing = lite-standing;
  path = path↔list;
  answer = ask↔list;
}
