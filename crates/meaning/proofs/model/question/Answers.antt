-- Paths: the words that they spell, the empty one, and the individuals' walk.
use Rattle.theory.specs.Run.{stop, one}
use Rattle.meaning.specs.Question.{along-role, at_name}
use Rattle.meaning.proofs.QuestionLaws.{yes↔word}
use Rattle.meaning.proofs.ModelWalk.{path↔individuals-walk}
use Rattle.meaning.proofs.model.question.Goals as goal

pub returns : goal.returns
returns c = record {
  role_step = λ 𝓒 s t S x y e f. one (along-role S e f);
  test_step = λ 𝓒 s t A x e h. one (at_name A e h);
  word = yes↔word;
  empty_path = λ 𝓒 a m. (𝓒.counts.start, m, stop);
  walk = path↔individuals-walk;
}
