-- Each contract leaves one value.
use Rattle.rules.proofs.Once.{transitions_once, states_once, concepts_once, tests_once, edges_to_once, edges_once, markable_once}
use Rattle.std.proofs.Common.{sym, ◌∙◌}
use Rattle.rules.proofs.theorems.unique.Goals as goal

pub returns-clause-one_transitions : goal.returns-clause-one_transitions
returns-clause-one_transitions c steps above v w p q = transitions_once steps above v w p.1 q.1 p.0 q.0

pub returns-clause-one_states : goal.returns-clause-one_states
returns-clause-one_states c = states_once

pub returns-clause-one_concepts : goal.returns-clause-one_concepts
returns-clause-one_concepts c = concepts_once

pub returns-clause-one_tests : goal.returns-clause-one_tests
returns-clause-one_tests c steps below n v w p q = tests_once steps below v w p.1 q.1 (p.0 ∙ sym q.0)

pub returns-clause-one_edges_to : goal.returns-clause-one_edges_to
returns-clause-one_edges_to c v w p q = edges_to_once v w p.1 q.1 p.0 q.0

pub returns-clause-one_edges : goal.returns-clause-one_edges
returns-clause-one_edges c below transitions v w p q = edges_once below transitions v w p.1 q.1 p.0 q.0

pub returns-clause-one_markable : goal.returns-clause-one_markable
returns-clause-one_markable c = markable_once
