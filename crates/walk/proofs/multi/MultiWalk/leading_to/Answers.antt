-- `leading_to`: strides lead to the hub from each node where such a first is marked.
use Rattle.walk.proofs.JumpLaws.{led_there}
use Rattle.walk.proofs.multi.MultiWalk.leading_to.Goals as goal

pub returns : goal.returns
returns c = led_there _ _ _ _ _ _ c.backward-behind.ensures c.marked_in.ensures
