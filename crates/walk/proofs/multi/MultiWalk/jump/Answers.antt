-- `jump`: the firsts were marked, and what the hub reaches is closed under strides.
use Rattle.walk.proofs.JumpLaws.{led_within, jumped}
use Rattle.walk.proofs.multi.MultiWalk.jump.Goals as goal

pub settle_all-requires-clause-part : goal.settle_all-requires-clause-part
settle_all-requires-clause-part c = led_within _ _ _ _ _ c.requires.ready c.leading_to-sources.ensures

pub returns : goal.returns
returns c = jumped _ _ _ _ _ _ _ c.leading_to-sources.ensures c.forward-reached.ensures c.settle_all.ensures
