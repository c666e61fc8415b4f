-- The question as it was typed.
use Rattle.reading.specs.File.{typed_question}
use Rattle.reading.proofs.Questions.{typed-asks}
use Rattle.reading.proofs.File.question.Goals as goal

pub returns-in-None : goal.returns-in-None
returns-in-None c = record {
  question = typed_question c.args.self.now;
  is = typed-asks c.args.self.now c.in-None.is;
  steps_are = c.table.ensures;
  finals_are = c.table-in-None.ensures;
}
