-- A row has one automaton.
use Rattle.expression.proofs.Clauses.{automaton-once}
use Rattle.expression.proofs.theorems.unique.Goals as goal

pub returns : goal.returns
returns c = record { one_automaton = λ row. automaton-once }
