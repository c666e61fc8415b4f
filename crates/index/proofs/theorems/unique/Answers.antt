-- Each contract leaves one outcome.
use Rattle.index.proofs.Unique.{prepares-once, answer-once, in-turn-once}
use Rattle.index.proofs.theorems.unique.Goals as goal

pub returns-clause-one_preparation : goal.returns-clause-one_preparation
returns-clause-one_preparation g c = prepares-once

pub returns-clause-one_answer : goal.returns-clause-one_answer
returns-clause-one_answer g c = answer-once

pub returns-clause-one_row : goal.returns-clause-one_row
returns-clause-one_row g c p ask area spare x y u v n = in-turn-once p ask g.A.AnyPlace.tells g.B.AnyPlace.tells area spare n
