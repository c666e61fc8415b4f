-- Each contract leaves one value.
use Rattle.orders.proofs.Once.{role-order-once, concept-order-once, closed-order-once, transposed-once, pairs-once, closes-once}
use Rattle.orders.proofs.Once.{or_row-once}
use Rattle.orders.specs.Marks.{Listed}
use Rattle.orders.proofs.theorems.unique.Goals as goal

pub returns-clause-one_role_order : goal.returns-clause-one_role_order
returns-clause-one_role_order c rules m n p q = role-order-once m n p.1 q.1 p.0 q.0

pub returns-clause-one_concept_order : goal.returns-clause-one_concept_order
returns-clause-one_concept_order c rules roles m n p q = concept-order-once m n p.1 q.1 p.0 q.0

pub returns-clause-one_closed_order : goal.returns-clause-one_closed_order
returns-clause-one_closed_order c rules roles m n p q = closed-order-once m n p.1 q.1 p.0 q.0

pub returns-clause-one_transposed : goal.returns-clause-one_transposed
returns-clause-one_transposed c t m n p q = transposed-once t m n p.1 q.1 p.0 q.0

pub returns-clause-one_listing : goal.returns-clause-one_listing
returns-clause-one_listing c pairs old m n p q = pairs-once old (Listed pairs) m n p.1 q.1 p.0 q.0

pub returns-clause-one_closing : goal.returns-clause-one_closing
returns-clause-one_closing c n m r q x y = closes-once m r q x.1 y.1 x.0 y.0

pub returns-clause-one_joined_row : goal.returns-clause-one_joined_row
returns-clause-one_joined_row c n a b r q x y = or_row-once r q x.1 y.1 x.0 y.0
