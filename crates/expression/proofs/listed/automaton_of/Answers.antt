use Rattle.expression.proofs.Clauses.{says-ok, says-automaton, says-words, says-asks, says-fits, says-declared, says-too-deep, says-no-expression, says-too-many}
use Rattle.expression.proofs.Once.{is-once}
use Rattle.expression.proofs.listed.automaton_of.Goals as goal

pub returns-clause-ok : goal.returns-clause-ok
returns-clause-ok c = says-ok c.answered.ensures

pub returns-clause-automaton : goal.returns-clause-automaton
returns-clause-automaton c = says-automaton c.answered.ensures

pub returns-clause-words : goal.returns-clause-words
returns-clause-words c = says-words c.answered.ensures

pub returns-clause-asks : goal.returns-clause-asks
returns-clause-asks c = says-asks c.answered.ensures

pub returns-clause-too_deep : goal.returns-clause-too_deep
returns-clause-too_deep c = says-too-deep c.answered.ensures

pub returns-clause-no_expression : goal.returns-clause-no_expression
returns-clause-no_expression c = says-no-expression c.answered.ensures

pub returns-clause-too_many_marks : goal.returns-clause-too_many_marks
returns-clause-too_many_marks c = says-too-many c.answered.ensures

pub returns-clause-fits : goal.returns-clause-fits
returns-clause-fits c = says-fits c.answered.ensures

pub returns-clause-declared : goal.returns-clause-declared
returns-clause-declared c = says-declared c.answered.ensures

pub returns-clause-one : goal.returns-clause-one
returns-clause-one c e f m n x y = is-once x y
