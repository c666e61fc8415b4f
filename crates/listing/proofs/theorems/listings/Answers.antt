use Rattle.listing.proofs.Inputs.{reads-as-listed, list-kept-as-is, its-text-again, its-copy, its-answers}
use Rattle.listing.proofs.theorems.listings.Goals as goal

pub returns : goal.returns
returns c = record { read = reads-as-listed; again = its-text-again; copied = its-copy; kept = list-kept-as-is; answers = its-answers }
