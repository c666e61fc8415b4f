use Rattle.intake.proofs.ListingLaws.{listing-of-kept}
use Rattle.intake.proofs.theorems.salvage.Goals as goal

pub returns : goal.returns
returns c = record { listing = listing-of-kept }
