-- What is filled says what the canonical model says.
use Rattle.elements.proofs.Mean.{concepts-mean}
use Rattle.elements.proofs.GeneratingMean.{generating-mean, ends-mean}
use Rattle.elements.proofs.theorems.meant.Goals as goal

pub returns-clause-concepts_mean : goal.returns-clause-concepts_mean
returns-clause-concepts_mean c counts t w order concepts o a B ha hB =
    concepts-mean counts t w.counts w.numbers order o.ordered B hB o.shown a ha

pub returns-clause-is_generating_mean : goal.returns-clause-is_generating_mean
returns-clause-is_generating_mean c counts t w order concepts o = generating-mean counts t w.counts w.numbers order concepts o.ordered
    o.shown

pub returns-clause-generating_mean : goal.returns-clause-generating_mean
returns-clause-generating_mean c counts t w order concepts o m = ends-mean counts t w.counts w.numbers order concepts o.ordered o.shown
