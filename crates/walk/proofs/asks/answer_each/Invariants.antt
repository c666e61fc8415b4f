-- `answer_each`: the asks below k have their answers.
use Rattle.walk.specs.Telling.{Answering}
use Rattle.walk.proofs.asks.answer_each.Given as goal

abbrev pub invariant-loop-k : goal.invariant-loop-k
invariant-loop-k l = Answering l.asking l.k l.answers
