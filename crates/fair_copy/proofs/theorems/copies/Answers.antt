use Rattle.fair_copy.proofs.Inputs.{reads-as-copy, its-copy-again, same-copies}
use Rattle.fair_copy.proofs.Answering.{copy-answers}
use Rattle.fair_copy.proofs.theorems.copies.Goals as goal

pub returns : goal.returns
returns c = record { read = reads-as-copy; again = its-copy-again; same = same-copies; answers = copy-answers }
