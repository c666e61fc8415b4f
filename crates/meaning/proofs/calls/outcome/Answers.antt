-- The outcome that is computed, and that there is no other.
use Rattle.kinds.specs.Answer.{number-listed, seven-never}
use Rattle.meaning.proofs.Calculate.{answer, area_after, spare_after}
use Rattle.meaning.proofs.OutcomeExists.{outcome-exists}
use Rattle.meaning.proofs.OutcomeLaws.{outcome-unique}
use Rattle.meaning.proofs.calls.outcome.Goals as goal

pub returns : goal.returns
returns c = record {
  some = λ d. (answer d, area_after d (answer d), spare_after d (answer d), outcome-exists d, number-listed (answer d), seven-never (answer d));
  once = λ d r r' x x' y y' o p. outcome-unique d o p;
}
