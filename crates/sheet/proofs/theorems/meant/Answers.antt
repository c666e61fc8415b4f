-- What a round adds, and what the sheet says.
use Rattle.sheet.proofs.Theory.{adds_by_new}
use Rattle.sheet.proofs.Mean.{same_needed, same_lays, same_counts, same_marks}
use Rattle.sheet.proofs.theorems.meant.Goals as goal

pub returns-clause-adds_by_new : goal.returns-clause-adds_by_new
returns-clause-adds_by_new g c = adds_by_new g.K.AnyKind.kind

pub returns-clause-needed_means : goal.returns-clause-needed_means
returns-clause-needed_means g c 𝓒 rows fit r = same_needed 𝓒 fit rows r

pub returns-clause-area_means : goal.returns-clause-area_means
returns-clause-area_means g c 𝓒 rows fit r = same_lays 𝓒 fit rows r

pub returns-clause-counts_mean : goal.returns-clause-counts_mean
returns-clause-counts_mean g c 𝓒 rows fit r = same_counts 𝓒 fit rows r

pub returns-clause-marks_mean : goal.returns-clause-marks_mean
returns-clause-marks_mean g c 𝓒 rows fit r = same_marks 𝓒 fit rows r
