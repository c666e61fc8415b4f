-- The answer fixes both areas.
use Rattle.index.proofs.ClausesHold.{answer-fixes-areas}
use Rattle.index.proofs.theorems.areas.Goals as goal

pub returns : goal.returns
returns c = record { by_answer = answer-fixes-areas }
