-- The laws of ModelLaws.
use Rattle.meaning.proofs.ModelLaws.{concept-fact-holds, role-fact-holds, concept-rule-kept, role-rule-kept, has_above, edge-above, edge-back, edge-has, has-neighbour}
use Rattle.meaning.proofs.model.model.Goals as goal

pub returns : goal.returns
returns c = record {
  concept_facts = concept-fact-holds;
  role_facts = role-fact-holds;
  concept_rules = concept-rule-kept;
  role_rules = role-rule-kept;
  concepts_above = λ 𝓒 x C D h l. has_above 𝓒 x h l;
  roles_above = λ 𝓒 x y R S e l. edge-above 𝓒 e l;
  inverses_back = λ 𝓒 x y S e. edge-back 𝓒 e;
  neighbour_had = λ 𝓒 x y S e. edge-has 𝓒 e;
  neighbour_there = has-neighbour;
}
