-- `implies_nothing`: the theorems.
use Rattle.meaning.proofs.ExcludedLaws.{breaks-alike, yes-alike, leaves-alike, no-answer-differs}
use Rattle.meaning.proofs.excluded.implies_nothing.Goals as goal

pub returns-clause-contradiction : goal.returns-clause-contradiction
returns-clause-contradiction c x y ok ok' w = breaks-alike w ok ok'

pub returns-clause-yes : goal.returns-clause-yes
returns-clause-yes c x y ok ok' w sane = yes-alike w ok ok' sane

pub returns-clause-leaves : goal.returns-clause-leaves
returns-clause-leaves c x y ok ok' w sane = leaves-alike w ok ok' sane

pub returns-clause-answer : goal.returns-clause-answer
returns-clause-answer c = no-answer-differs
