-- The tables of an automaton fit, and what was typed is the question as it is.
use Rattle.std.proofs.Common.{refl, arith}
use Rattle.expression.proofs.FitsLaws.{fits-tables}
use Rattle.reading.specs.File.{typed_question}
use Rattle.reading.proofs.Questions.{typed-asks}
use Rattle.reading.proofs.File.spell_out.Goals as goal

pub replace-requires : goal.replace-requires
replace-requires c = let f = fits-tables _ c.automaton-automaton.ensures in (omega arith, rw c.steps.ensures f.steps)

pub replace-requires-in-Some : goal.replace-requires-in-Some
replace-requires-in-Some c = let f = fits-tables _ c.automaton-automaton.ensures in (omega arith, rw c.finals.ensures f.finals)

pub returns-in_default : goal.returns-in_default
returns-in_default c = record {
  question = typed_question c.args.self.now;
  is = typed-asks c.args.self.now c.in_default.is;
  spelled = rw c.in_default.is refl;
}
