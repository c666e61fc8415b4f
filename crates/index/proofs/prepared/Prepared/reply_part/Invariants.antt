-- `reply_part`: the asks so far have their answers, and all other entries are as they were.
use Rattle.index.specs.Row.{AnswersBetween}
use Rattle.index.proofs.prepared.Prepared.reply_part.Given as goal

abbrev pub invariant-loop-k : goal.invariant-loop-k
invariant-loop-k l = AnswersBetween l.self l.asks.numbers.now l.from l.k l.initial.answers l.answers
