-- `forbidden`: the theorems.
use Rattle.meaning.proofs.ExcludedLaws.{role-forbidden, neighbour-forbidden}
use Rattle.meaning.proofs.excluded.forbidden.Goals as goal

pub returns-clause-role : goal.returns-clause-role
returns-clause-role c = role-forbidden

pub returns-clause-neighbour : goal.returns-clause-neighbour
returns-clause-neighbour c = neighbour-forbidden
