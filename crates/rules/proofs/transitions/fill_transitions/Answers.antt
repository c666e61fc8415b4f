-- One role more has its transitions, and at the end all.
use Rattle.std.specs.Prelude.{[]}
use Rattle.std.proofs.Common.{arith}
use Rattle.laws.specs.Fill.{all_done}
use Rattle.kinds.specs.Kinds.{most_states}
use Rattle.rules.specs.Rows.{most_edges}
use Rattle.rules.proofs.TransitionLaws.{JoinedOf, no_rows, transitions_are}
use Rattle.rules.proofs.transitions.fill_transitions.Goals as goal

pub returns : goal.returns
returns c = transitions_are _ _ most_edges _ _ _ (λ s t h. no_rows most_states s t (rw c.nowhere-own.ensures at h)) c.put_steps.ensures
    (all_done (JoinedOf _ _) [] most_edges _ _ _ c.loop-r.invariant (omega arith))
