-- `mark_pairs` meets its contract: a turn marks the two numbers of one record.
use Rattle.kinds.specs.Kinds.{number-concept}
use Rattle.meaning.specs.Lent.{field, rule_width}
use Rattle.tables.specs.Records.{read_concept_pair}
use Rattle.sets.specs.Bits.{concept_width}
use Rattle.orders.proofs.Listing.{listing_more}
use Rattle.orders.proofs.concepts.mark_pairs.Goals as goal

pub loop-pair-preserved : goal.loop-pair-preserved
loop-pair-preserved c =
    let t = c.args.pairs.numbers in
    let k = c.loop-pair.pair-iterator.next in
    let next = c.in-Some.ensures.steps in
    let left = number-concept (field rule_width t.now 0 k) in
    let right = number-concept (field rule_width t.now 1 k) in
    listing_more concept_width concept_width rule_width _ t _ read_concept_pair _ _ k _ _ _ _ c.loop-pair.invariant next.0 next.1
    (rw (next.0.is, c.loop-pair.invariant.same, left, right) at c.mark_pair.ensures)
