-- `answer_many`: the asks below k have their answers.
use Rattle.walk.specs.Telling.{Answering}
use Rattle.walk.proofs.asks.answer_many.Given as goal

abbrev pub invariant-loop-k : goal.invariant-loop-k
invariant-loop-k l = Answering l.asking l.k l.answers
