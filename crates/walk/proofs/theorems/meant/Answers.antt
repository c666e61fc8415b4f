-- Tables, question and answers are the collection's.
use Rattle.walk.proofs.Mean.{loops-mean, tables-mean, question-mean, walk-mean, yes-mean}
use Rattle.walk.proofs.AcceptingMean.{accepting-mean}
use Rattle.walk.proofs.theorems.meant.Goals as goal

pub returns-clause-loops_mean : goal.returns-clause-loops_mean
returns-clause-loops_mean c counts t f = loops-mean counts t f.counts f.numbers

pub returns-clause-tables_mean : goal.returns-clause-tables_mean
returns-clause-tables_mean c counts t f = tables-mean counts t f.counts f.numbers

pub returns-clause-accepting_means : goal.returns-clause-accepting_means
returns-clause-accepting_means c counts t f = accepting-mean counts t f.counts f.numbers

pub returns-clause-question_means : goal.returns-clause-question_means
returns-clause-question_means c counts t f = question-mean counts t f.counts f.numbers

pub returns-clause-walk_means : goal.returns-clause-walk_means
returns-clause-walk_means c counts t f few n needed loops transitions r =
    walk-mean counts t f.counts f.numbers few n needed loops transitions r f

pub returns-clause-yes_means : goal.returns-clause-yes_means
returns-clause-yes_means c counts t f = yes-mean counts t f.counts f.numbers
