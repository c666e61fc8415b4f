-- Each of the two calls undoes the other, and both keep the sheet of a collection.
use Rattle.lampsaffron.proofs.AreasLaws.{there-and-back, back-and-there, rounds-moved, rounds-moved-back}
use Rattle.lampsaffron.proofs.theorems.moved.Goals as goal

pub returns-clause-there_and_back : goal.returns-clause-there_and_back
returns-clause-there_and_back c = there-and-back

pub returns-clause-back_and_there : goal.returns-clause-back_and_there
returns-clause-back_and_there c = back-and-there

pub returns-clause-rounds_moved : goal.returns-clause-rounds_moved
returns-clause-rounds_moved c = rounds-moved

pub returns-clause-rounds_moved_back : goal.returns-clause-rounds_moved_back
returns-clause-rounds_moved_back c = rounds-moved-back
