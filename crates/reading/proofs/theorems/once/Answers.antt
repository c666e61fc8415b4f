use Rattle.reading.proofs.Once.{judged-once, finds-once, reading-once, reads-once}
use Rattle.reading.specs.File.{file_of}
use Rattle.reading.proofs.Questions.{question-once, lent-once}
use Rattle.reading.proofs.theorems.once.Goals as goal

pub returns : goal.returns
returns c = record {
  judged = judged-once;
  finds = λ before line r q a b. finds-once a b;
  reading = λ before ls v w a b. reading-once a b;
  question = λ fs. question-once (file_of fs);
  lent = lent-once;
  reads = λ ls r q x y a b. reads-once a b;
}
