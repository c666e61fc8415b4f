-- What is asked, by its parts (docs/RULES.md, sections 5 and 7).
use Rattle.kinds.specs.declared.Individual.{Individual}
use Rattle.kinds.specs.declared.Counts.{Counts}
use Rattle.kinds.specs.declared.Ask.{Ask}
use Rattle.kinds.specs.declared.Ask.TheVariants.{Pair, From}
use Rattle.kinds.specs.Kinds.{IndividualDeclared}

-- the individual that the paths of an ask start from
abbrev pub first_of : Ask → Individual
first_of (Pair a b) = a
first_of (From a) = a

-- its individuals are declared
abbrev pub AskDeclared : Counts → Ask → Type 0
AskDeclared c (Pair a b) = IndividualDeclared c a × IndividualDeclared c b
AskDeclared c (From a) = IndividualDeclared c a
