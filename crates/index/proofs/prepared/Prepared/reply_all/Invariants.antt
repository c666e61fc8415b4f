-- `reply_all`: the parts so far are answered, and all other entries are as they were.
use Rattle.std.proofs.Common.{◌*◌}
use Rattle.index.specs.Row.{AnswersBetween}
use Rattle.walk.specs.Batches.{most_batch}
use Rattle.index.proofs.prepared.Prepared.reply_all.Given as goal

abbrev pub invariant-loop-part : goal.invariant-loop-part
invariant-loop-part l = AnswersBetween l.self l.asks.numbers.now 0 (most_batch * l.part) l.initial.answers l.answers
