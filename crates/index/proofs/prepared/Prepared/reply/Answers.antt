-- `reply`: with other deed numbers the answer is the same.
use Rattle.index.proofs.Deeds.{answer-whatever}
use Rattle.index.proofs.prepared.Prepared.reply.Goals as goal

pub returns-clause-deeds : goal.returns-clause-deeds
returns-clause-deeds c = answer-whatever _ c.reply_told.ensures
