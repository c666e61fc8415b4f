use Rattle.file.proofs.Told.{asks-answered, rounds-are-told, no-round, fault-told}
use Rattle.file.proofs.theorems.lines.Goals as goal

pub returns : goal.returns
returns c = record {
  asks = λ input text w. asks-answered w;
  rounds = λ input text w. rounds-are-told w;
  no_round = λ input text w. no-round w;
  fault = λ input text w. fault-told w;
}
