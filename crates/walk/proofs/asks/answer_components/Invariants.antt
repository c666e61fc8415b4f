-- `answer_components`: the answers that were given are right, and so is what is known of components.
use Rattle.walk.specs.Known.{AreKnown}
use Rattle.walk.specs.Telling.{Answering}
use Rattle.walk.proofs.asks.answer_components.Given as goal

abbrev pub invariant-loop-k : goal.invariant-loop-k
invariant-loop-k l = Answering l.asking 0 l.answers × AreKnown l.asking.strides l.asking.question.start l.known
