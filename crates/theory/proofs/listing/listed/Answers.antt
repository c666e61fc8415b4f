-- The laws of ListingLaws, of what the list tells.
use Rattle.theory.proofs.ListingLaws.{listed-after, listed-closed, needed-is-last, counts-listed, stands-listed}
use Rattle.theory.proofs.listing.listed.Goals as goal

pub returns : goal.returns
returns g c = let N = g.N.AnyNumbered.numbered in record {
  after = λ k l h. listed-after N l h k;
  closed = λ k l h. listed-closed N l h k;
  needed = λ k l h. needed-is-last N l h k;
  counts = counts-listed N;
  stands = λ k l h. stands-listed N l h k;
}
