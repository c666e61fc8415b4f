-- No row has a mark.
use Rattle.std.specs.Prelude.{◌*◌, refl}
use Rattle.kinds.specs.Kinds.{most_states}
use Rattle.sheet.proofs.Laws.{blank_paired, blank_rows}
use Rattle.sheet.proofs.marks.Marks.none.Goals as goal

pub invariant_of-result : goal.invariant_of-result
invariant_of-result c = record { paired = blank_paired _ most_states (blank_rows (most_states * most_states) refl) }

pub returns : goal.returns
returns c = blank_rows (most_states * most_states) refl
