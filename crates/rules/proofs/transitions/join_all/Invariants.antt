-- The roles taken have their relations in.
use Rattle.kinds.specs.Kinds.{most_states}
use Rattle.laws.specs.Loops.{Witness}
use Rattle.sets.proofs.Gathering.{Over}
use Rattle.sets.specs.Relations.{relation_at}
use Rattle.rules.specs.Transitions.{Gains, Below}
use Rattle.rules.proofs.transitions.join_all.Given as goal

abbrev pub invariant-loop-role : goal.invariant-loop-role
invariant-loop-role l =
    Over l.fn.roles.0 l.role-iterator.rest.0
    (λ D. Gains (λ s t. Witness D (λ by. Below (relation_at l.own by) most_states s t)) l.fn.into l.into)
