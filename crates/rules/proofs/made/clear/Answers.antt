-- Every row is the set of no concept.
use Rattle.std.specs.Prelude.{◌*◌}
use Rattle.kinds.specs.Kinds.{most_states}
use Rattle.rules.proofs.MadeLaws.{all_blank}
use Rattle.rules.proofs.made.clear.Goals as goal

pub returns : goal.returns
returns c = all_blank (most_states * most_states) _ _ c.told-tests (rw c.none-none.ensures at (c.fill.ensures.after (λ y p. p)))
