-- `Component::alone`: no other individual is marked.
use Rattle.walk.proofs.ComponentLaws.{component, members_none}
use Rattle.walk.proofs.components.Component.alone.Goals as goal

pub returns-clause-component : goal.returns-clause-component
returns-clause-component c = component _ _ _ c.forward.ensures (members_none _ _ _ 255)
