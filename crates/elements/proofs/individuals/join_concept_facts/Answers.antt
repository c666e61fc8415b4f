-- `join_concept_facts` meets its contract: a turn adds what one fact says.
use Rattle.tables.specs.Records.{read_concept_fact}
use Rattle.kinds.specs.Kinds.{most_individuals}
use Rattle.meaning.specs.Lent.{concept_fact_width}
use Rattle.sets.specs.Bits.{concept_width}
use Rattle.orders.proofs.Listing.{listing_more}
use Rattle.elements.proofs.individuals.join_concept_facts.Goals as goal

pub loop-fact-preserved : goal.loop-fact-preserved
loop-fact-preserved c =
    let before = c.loop-fact.invariant in
    let next = c.in-Some.ensures.steps in
    listing_more most_individuals concept_width concept_fact_width _ _ _ read_concept_fact _ _ _ _ _ _ _ before next.0 next.1
    (rw (next.0.is, before.same) at c.join_concept_fact.ensures)
