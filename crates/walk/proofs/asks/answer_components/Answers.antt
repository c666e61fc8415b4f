-- `answer_components`: no component is known before the first one.
use Rattle.walk.proofs.asks.answer_components.Goals as goal

pub loop-k-init : goal.loop-k-init
loop-k-init c = (c.requires, c.new-known.ensures _ _)
