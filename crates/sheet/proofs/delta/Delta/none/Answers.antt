-- There is no mark to count.
use Rattle.kinds.specs.Kinds.{most_states}
use Rattle.sheet.proofs.Laws.{blank_many}
use Rattle.sheet.proofs.delta.Delta.none.Goals as goal

pub invariant_of-result : goal.invariant_of-result
invariant_of-result c = record { counted = blank_many _ c.none.ensures most_states }
