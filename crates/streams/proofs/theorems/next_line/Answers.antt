use Rattle.streams.proofs.LinesLaws.{next-once}
use Rattle.streams.proofs.theorems.next_line.Goals as goal

pub returns : goal.returns
returns c = record {
  once = λ bytes left other n m a b. next-once bytes left other n m a.gives a.consumes b.gives b.consumes;
}
