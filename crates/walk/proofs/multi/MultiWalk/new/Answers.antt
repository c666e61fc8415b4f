-- `new`: all is zero.
use Rattle.walk.proofs.StartLaws.{unmarked}
use Rattle.walk.proofs.multi.MultiWalk.new.Goals as goal

pub returns : goal.returns
returns c = unmarked
