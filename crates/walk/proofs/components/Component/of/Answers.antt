-- `Component::of`: the members reach what the first reaches.
use Rattle.walk.proofs.ComponentLaws.{component}
use Rattle.walk.proofs.components.Component.of.Goals as goal

pub returns-clause-component : goal.returns-clause-component
returns-clause-component c = component _ _ _ c.forward_by_known-reached.ensures c.members-others.ensures
