use Rattle.std.proofs.lemmas.Result.{on_ok_weaker}
use Rattle.file.proofs.Settling.{settled-plain, settled-read}
use Rattle.file.proofs.replies.settle.Goals as goal

pub returns-else-file-clause-ok : goal.returns-else-file-clause-ok
returns-else-file-clause-ok g c = settled-plain c.args.file.now c.if-file.false (g.met.T.Taker.none _)

pub returns-then-file-clause-read : goal.returns-then-file-clause-read
returns-then-file-clause-read g c = on_ok_weaker c.drop_facts.result (λ s. settled-read c.requires.read s) c.drop_facts.ensures.ok
