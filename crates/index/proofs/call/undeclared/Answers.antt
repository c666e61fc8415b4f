-- `undeclared`: number 8, or the refusal of the collection.
use Rattle.index.proofs.Outcomes.{ok-refuses, err-refuses}
use Rattle.index.proofs.call.undeclared.Goals as goal

pub returns-in-Ok : goal.returns-in-Ok
returns-in-Ok c = ok-refuses c.args.lent.now _ _ c.check.ensures c.in-Ok.is

pub returns-in-Err : goal.returns-in-Err
returns-in-Err c = rw c.answer.ensures (err-refuses c.args.lent.now _ _ c.check.ensures c.in-Err.is)
