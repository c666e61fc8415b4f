use Rattle.std.proofs.Common.{◌∙◌, sym}
use Rattle.sift.proofs.Marking.{named_then, named_not}
use Rattle.sift.proofs.names_all.Goals as goal

pub returns-then-count-len : goal.returns-then-count-len
returns-then-count-len c =
    named_then c.args.order.now c.args.collection.now.concept_facts.numbers.now c.args.collection.now.role_facts.numbers.now _ _
    (sym c.count.ensures ∙ c.if-count-len.true ∙ c.len.ensures) c.count-then-count-len.ensures c.len-then-count-len.ensures

pub returns-else-count-len : goal.returns-else-count-len
returns-else-count-len c =
    named_not c.args.order.now c.args.collection.now.concept_facts.numbers.now c.args.collection.now.role_facts.numbers.now _ _
    c.if-count-len.false c.count.ensures c.len.ensures
