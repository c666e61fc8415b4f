-- The marks are the two orders of the collection.
use Rattle.orders.proofs.Mean.{role-marks-mean, concept-marks-mean}
use Rattle.orders.proofs.theorems.meant.Goals as goal

pub returns-clause-role_marks_mean : goal.returns-clause-role_marks_mean
returns-clause-role_marks_mean c counts t w m o = role-marks-mean counts t w.counts w.numbers o

pub returns-clause-concept_marks_mean : goal.returns-clause-concept_marks_mean
returns-clause-concept_marks_mean c counts t w m o = concept-marks-mean counts t w.counts w.numbers o
