-- `mark_pairs`: the pairs before the next one are marked.
use Rattle.sets.specs.Rows.{concept_marks}
use Rattle.orders.specs.Marks.{Hit}
use Rattle.meaning.specs.Lent.{rule_width}
use Rattle.sets.specs.Bits.{concept_width}
use Rattle.orders.proofs.Listing.{Listing}
use Rattle.orders.proofs.concepts.mark_pairs.Given as goal

abbrev pub invariant-loop-pair : goal.invariant-loop-pair
invariant-loop-pair l = Listing concept_width concept_width rule_width (Hit l.fn.pairs.numbers.now) l.fn.pairs.numbers
    (concept_marks l.initial.rows) l.pair-iterator.table.numbers l.pair-iterator.next (concept_marks l.rows)
