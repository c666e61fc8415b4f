-- Each contract leaves one value.
use Rattle.elements.proofs.Once.{concepts-once, gathered-once, generating-once}
use Rattle.elements.proofs.theorems.unique.Goals as goal

pub returns-clause-one_concepts : goal.returns-clause-one_concepts
returns-clause-one_concepts c names roles order m n p q = concepts-once m n p.1 q.1 p.0 q.0

pub returns-clause-one_generating : goal.returns-clause-one_generating
returns-clause-one_generating c concepts order m n p q = generating-once m n p.1 q.1 p.0 q.0

pub returns-clause-one_gathered : goal.returns-clause-one_gathered
returns-clause-one_gathered c h m n r p q = gathered-once n r p q
