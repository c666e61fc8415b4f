-- `shared_with`: one with no concept changes nothing, and another one shares no more than it has.
use Rattle.walk.proofs.loops.shared_with.Goals as goal

pub returns-then-is_empty-clause-own : goal.returns-then-is_empty-clause-own
returns-then-is_empty-clause-own c = λ some. absurd (some (c.is_empty.ensures.0 c.if-is_empty.true))

pub returns-clause-keeps : goal.returns-clause-keeps
returns-clause-keeps c = λ k p. ((c.intersection.ensures.member k).0 p).0

pub returns-clause-own : goal.returns-clause-own
returns-clause-own c = λ _ k p. ((c.intersection.ensures.member k).0 p).1
