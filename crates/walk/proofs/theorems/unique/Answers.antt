-- Each contract leaves one value.
use Rattle.walk.proofs.LoopLaws.{loops-once}
use Rattle.walk.proofs.AcceptingLaws.{accepting-once}
use Rattle.walk.proofs.FinalLaws.{finals-once}
use Rattle.walk.proofs.WalkLaws.{found-once}
use Rattle.walk.proofs.TellLaws.{answers-once}
use Rattle.walk.proofs.theorems.unique.Goals as goal

pub returns-clause-one_loops : goal.returns-clause-one_loops
returns-clause-one_loops c = loops-once

pub returns-clause-one_accepting : goal.returns-clause-one_accepting
returns-clause-one_accepting c = accepting-once

pub returns-clause-one_finals : goal.returns-clause-one_finals
returns-clause-one_finals c = finals-once

pub returns-clause-one_walk : goal.returns-clause-one_walk
returns-clause-one_walk c = found-once

pub returns-clause-one_row : goal.returns-clause-one_row
returns-clause-one_row c = answers-once
