-- Nothing that is decided depends on deed numbers.
use Rattle.meaning.proofs.DeedLaws.{deeds-decide-nothing, one-collection, concept-fact-one, role-fact-one, growth-without-deeds}
use Rattle.meaning.proofs.calls.deeds.Goals as goal

pub returns : goal.returns
returns c = record {
  outcome = deeds-decide-nothing;
  meant = one-collection;
  concept_facts = concept-fact-one;
  role_facts = role-fact-one;
  growth = growth-without-deeds;
}
