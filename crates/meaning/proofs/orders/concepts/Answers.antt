-- C ≤ D: by its constructors, and the test that computes it.
use Rattle.laws.specs.Search.{passed}
use Rattle.meaning.specs.Orders.{same, then, rule, wider}
use Rattle.meaning.proofs.LiteTests.{concept_le, concept_le-out, concept_le-is}
use Rattle.meaning.proofs.orders.concepts.Goals as goal

pub returns : goal.returns
returns c = record {
  concepts_ordered = λ 𝓒. record {
    reflexive = λ C. same;
    transitive = λ C D E l m. then l m;
    rules = λ C D m. rule m;
    neighbours = λ R S l. wider l;
  };
  concepts_computed = λ 𝓒 ok. (
    concept_le 𝓒,
    record {
      only = λ C D h. concept_le-out 𝓒 ok C D (passed (concept_le 𝓒 C D) h);
      each = λ C D d l. (concept_le-is 𝓒 ok C D d).1 l;
    },
  );
}
