-- `join_role_facts`: the rows have what the facts before the next one add.
use Rattle.sets.specs.Rows.{concept_marks}
use Rattle.orders.proofs.Listing.{Listing}
use Rattle.elements.specs.Steps.{RoleHit}
use Rattle.kinds.specs.Kinds.{most_individuals}
use Rattle.meaning.specs.Lent.{role_fact_width}
use Rattle.sets.specs.Bits.{concept_width}
use Rattle.elements.proofs.individuals.join_role_facts.Given as goal

abbrev pub invariant-loop-fact : goal.invariant-loop-fact
invariant-loop-fact l = Listing most_individuals concept_width role_fact_width
    (RoleHit l.fn.facts.numbers.now (concept_marks l.order.above)) l.fn.facts.numbers
    (concept_marks l.initial.rows) l.fact-iterator.table.numbers l.fact-iterator.next (concept_marks l.rows)
