-- The canonical model is a world, unless it breaks an exclusion.
use Rattle.meaning.specs.Lent.{collection_of}
use Rattle.meaning.proofs.Forced.{model-keeps, model-respects, yes-out, leaves-out}
use Rattle.meaning.proofs.AskLaws.{ask-out}
use Rattle.meaning.proofs.WorldsSay.{missed, no-world, yes-world, spent-world}
use Rattle.meaning.proofs.worlds.some.Goals as goal

pub returns : goal.returns
returns c = record {
  model_keeps = model-keeps;
  model_respects = model-respects;
  only_yes = yes-out;
  only_leaving = leaves-out;
  world_after_no = λ d n x y o. no-world d o;
  world_after_yes = λ d n x y o. yes-world d o;
  world_after_spent = λ d n x y o. spent-world d o;
  not_forced = λ d n x y o p. missed d o (ask-out (collection_of d) d.ask p);
}
