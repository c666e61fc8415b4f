-- Transitions, rows and marks are those of the collection.
use Rattle.rules.proofs.MadeMean.{transitions_mean, rows_of}
use Rattle.rules.proofs.Same.{same_marks}
use Rattle.rules.proofs.theorems.meant.Goals as goal

pub returns-clause-transitions_mean : goal.returns-clause-transitions_mean
returns-clause-transitions_mean c 𝓒 f above below transitions h = transitions_mean 𝓒 f.counts f.numbers above h.roles transitions
    h.are_transitions

pub returns-clause-rows_mean : goal.returns-clause-rows_mean
returns-clause-rows_mean c 𝓒 f above below transitions h =
    rows_of 𝓒 f.counts f.numbers below h.concepts transitions
    (transitions_mean 𝓒 f.counts f.numbers above h.roles transitions h.are_transitions)

pub returns-clause-marks_mean : goal.returns-clause-marks_mean
returns-clause-marks_mean c = same_marks
