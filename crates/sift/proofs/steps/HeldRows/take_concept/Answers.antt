use Rattle.laws.specs.Truth.{test-false}
use Rattle.sift.specs.Steps.{dropped, kept}
use Rattle.sift.proofs.steps.HeldRows.take_concept.Goals as goal

pub returns-then-concept_clashes : goal.returns-then-concept_clashes
returns-then-concept_clashes c = dropped (c.concept_clashes.ensures.0 c.if-concept_clashes.true)

pub returns : goal.returns
returns c =
    kept (test-false c.concept_clashes.ensures c.if-concept_clashes.false)
    (record { concepts = c.put_concept.ensures.concepts; roles = c.put_concept.ensures.roles })
