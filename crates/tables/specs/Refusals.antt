-- A refusal as an answer.
use Rattle.kinds.specs.declared.Answer.{Answer}
use Rattle.kinds.specs.declared.Answer.TheVariants as answer
use Rattle.tables.specs.declared.collection.Refusal.{Refusal}
use Rattle.tables.specs.declared.collection.Refusal.TheVariants.{BadCount, BadTable, BadNumber}

abbrev pub answer_of : Refusal → Answer
answer_of BadCount = answer.BadCount
answer_of BadTable = answer.BadTable
answer_of BadNumber = answer.BadNumber
