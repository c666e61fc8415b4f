-- R ≤ S: by its constructors, its inverse, and the test that computes it.
use Rattle.laws.specs.Search.{passed}
use Rattle.meaning.specs.Orders.{same, then, rule, turned}
use Rattle.meaning.proofs.RoleTurned.{inverses-follow}
use Rattle.meaning.proofs.LiteTests.{role_le, role_le-out, role_le-is}
use Rattle.meaning.proofs.orders.roles.Goals as goal

pub returns : goal.returns
returns c = record {
  roles_ordered = λ 𝓒. record {
    reflexive = λ R. same;
    transitive = λ R S U l m. then l m;
    rules = λ R S m. rule m;
    inverses = λ R S l. turned l;
  };
  inverses = λ 𝓒 R S. inverses-follow 𝓒;
  roles_computed = λ 𝓒 ok. (
    role_le 𝓒,
    record {
      only = λ R S h. role_le-out 𝓒 ok R S (passed (role_le 𝓒 R S) h);
      each = λ R S d l. (role_le-is 𝓒 ok R S d).1 l;
    },
  );
}
