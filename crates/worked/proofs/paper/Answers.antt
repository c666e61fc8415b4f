-- The cases, the list of the base collection, and facts that clash: the checker computes them.
use Rattle.worked.proofs.BaseListHolds.{base-list-holds}
use Rattle.worked.proofs.CasesHold.{cases-hold}
use Rattle.worked.proofs.SalvagesHold.{salvages_hold}
use Rattle.worked.proofs.paper.Goals as goal

pub returns : goal.returns
returns c = record { cases = cases-hold; list = base-list-holds; salvages = salvages_hold }
