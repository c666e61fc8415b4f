-- A contradiction: by its constructors, and by the finite test.
use Rattle.meaning.specs.Model.{at-element, at_pair}
use Rattle.meaning.proofs.ModelLaws.{self-clash}
use Rattle.meaning.proofs.ClashShown.{contradiction↔clash, self-exclusion, empty-concept, nothing-excluded}
use Rattle.meaning.proofs.model.contradiction.Goals as goal

pub returns : goal.returns
returns c = record {
  concept_forbidden = λ 𝓒 C m x b h. self-exclusion 𝓒 x C m b h;
  role_forbidden = λ 𝓒 R m x y e. at_pair x y R R m e e;
  self_clash = self-clash;
  empty_forbidden = λ 𝓒 C D E d e m x b h. empty-concept 𝓒 x C D E d e m b h;
  none = λ 𝓒. (
    λ n. nothing-excluded 𝓒 n,
    λ sane. record {
      concepts = λ C D m x b h k. sane (at-element x C D m b h k);
      roles = λ R S m x y e f. sane (at_pair x y R S m e f);
    },
  );
  found = λ 𝓒 ok. contradiction↔clash 𝓒 ok;
}
