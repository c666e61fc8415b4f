-- `walk_by`: the walk leaves sets that are closed under strides.
use Rattle.std.proofs.Common.{arith, rules, ⊎_elim}
use Rattle.walk.proofs.EndLaws.{start_ready, found_none, found}
use Rattle.walk.proofs.walk.walk_by.Goals as goal

pub returns-then-first-ge-MOST : goal.returns-then-first-ge-MOST
returns-then-first-ge-MOST c = found_none _ _ _ (λ h k. ⊎_elim (λ l. omega arith) (λ l. omega arith) c.then-first-ge-MOST.either)

pub exhaust-requires-clause-ready : goal.exhaust-requires-clause-ready
exhaust-requires-clause-ready c = start_ready _ _ c.if-first-ge-MOST.false (search rules)

pub returns : goal.returns
returns c = found _ _ _ _ c.if-first-ge-MOST.false c.if-start-ge-MOST.false c.only.ensures _ _ c.exhaust.ensures
