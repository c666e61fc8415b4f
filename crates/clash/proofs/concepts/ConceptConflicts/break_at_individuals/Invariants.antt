-- `break_at_individuals`: none of the first a individuals has both sides of an exclusion.
use Rattle.sets.specs.Rows.{concept_marks}
use Rattle.clash.specs.Clashes.{IndividualClashes}
use Rattle.clash.proofs.SeekLaws.{Past}
use Rattle.clash.proofs.concepts.ConceptConflicts.break_at_individuals.Given as goal

abbrev pub invariant-loop-row : goal.invariant-loop-row
invariant-loop-row l = Past (IndividualClashes l.self.exclusions.numbers.now (concept_marks l.individuals)) l.row-index
