-- Each call gives one outcome.
use Rattle.expression.proofs.Clauses.{automaton-once}
use Rattle.lampsaffron.proofs.Given.{gives-once, row-once}
use Rattle.lampsaffron.proofs.AsksLaws.{asking-once}
use Rattle.lampsaffron.proofs.AreasLaws.{moving-once, moving-back-once}
use Rattle.lampsaffron.proofs.Made.{made-once, tables-once}
use Rattle.lampsaffron.proofs.Rounds.{marks-once}
use Rattle.lampsaffron.proofs.SameLaws.{same-once}
use Rattle.lampsaffron.proofs.ListOnce.{giving-once, departing-once}
use Rattle.lampsaffron.proofs.SalvageLaws.{salvaging_once}
use Rattle.lampsaffron.proofs.theorems.unique.Goals as goal

pub returns-clause-one_call : goal.returns-clause-one_call
returns-clause-one_call c = gives-once

pub returns-clause-one_row : goal.returns-clause-one_row
returns-clause-one_row c = row-once

pub returns-clause-one_marking : goal.returns-clause-one_marking
returns-clause-one_marking c = λ p old new new' number number'. marks-once p old number number' new new'

pub returns-clause-one_asking : goal.returns-clause-one_asking
returns-clause-one_asking c = λ p asks old new new' number number'. asking-once p asks old number number' new new'

pub returns-clause-one_making : goal.returns-clause-one_making
returns-clause-one_making c = λ row old new new' number number'. tables-once row old number number' new new'

pub returns-clause-one_number : goal.returns-clause-one_number
returns-clause-one_number c = made-once

pub returns-clause-one_automaton : goal.returns-clause-one_automaton
returns-clause-one_automaton c = λ row a b x y. automaton-once a b x y

pub returns-clause-one_moving : goal.returns-clause-one_moving
returns-clause-one_moving c = moving-once

pub returns-clause-one_moving_back : goal.returns-clause-one_moving_back
returns-clause-one_moving_back c = moving-back-once

pub returns-clause-one_giving : goal.returns-clause-one_giving
returns-clause-one_giving c = giving-once

pub returns-clause-one_departing : goal.returns-clause-one_departing
returns-clause-one_departing c = departing-once

pub returns-clause-one_comparing : goal.returns-clause-one_comparing
returns-clause-one_comparing c = same-once

pub returns-clause-one_salvaging : goal.returns-clause-one_salvaging
returns-clause-one_salvaging c = salvaging_once
