-- `join_concept_fact` meets its contract: a fact whose numbers have no row adds nothing, and another one a row of the order.
use Rattle.std.proofs.Common.{arith}
use Rattle.kinds.specs.Kinds.{number_of}
use Rattle.elements.proofs.FactLaws.{concept_fact_row, no_concept_fact}
use Rattle.elements.proofs.individuals.join_concept_fact.Goals as goal

pub returns-then-fact-ge-MOST : goal.returns-then-fact-ge-MOST
returns-then-fact-ge-MOST c = no_concept_fact _ _ c.args.fact (λ n a. grind (arith, n, a, c.then-fact-ge-MOST.either))

pub returns : goal.returns
unfolding number_of
returns c = concept_fact_row _ _ c.args.fact _ (omega (arith, c.if-fact-ge-MOST.false)) (rw c.above.ensures at c.join.ensures)
