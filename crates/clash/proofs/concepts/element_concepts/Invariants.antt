-- `element_concepts`: the set has the concepts of the individuals, and of the unnamed elements that end by a role that is past.
use Rattle.kinds.specs.Kinds.{most_individuals}
use Rattle.sets.specs.Rows.{concept_marks}
use Rattle.clash.specs.Conflicts.{AreAmong}
use Rattle.clash.proofs.ConceptLaws.{Taking}
use Rattle.clash.proofs.concepts.element_concepts.Given as goal

abbrev pub invariant-loop-role : goal.invariant-loop-role
invariant-loop-role l = record {
  individuals : AreAmong most_individuals (concept_marks l.elements.individuals) l.all.0;
  unnamed : Taking (concept_marks l.order.above) l.elements.generating.0 l.role-iterator.rest.0 l.all.0;
}
