-- In every world: by a thing for each element of the canonical model.
use Rattle.meaning.proofs.Forced.{yes-in, leaves-in, no-world}
use Rattle.meaning.proofs.AskLaws.{ask-in}
use Rattle.meaning.proofs.WorldsSay.{reached, breaks}
use Rattle.meaning.specs.Lent.{collection_of}
use Rattle.meaning.proofs.worlds.every.Goals as goal

pub returns : goal.returns
returns g c = record {
  yes_forced = λ 𝓒 a b y keeps. yes-in 𝓒 g.W.AnyWorld.world keeps a b y;
  leaving_forced = λ 𝓒 a l keeps. leaves-in 𝓒 g.W.AnyWorld.world keeps a l;
  contradiction_none = λ 𝓒 h w. no-world 𝓒 g.W.AnyWorld.world h w;
  answer_yes = λ d n x y o w. ask-in (collection_of d) g.W.AnyWorld.world w.keeps d.ask (reached d o);
  answer_contradiction = λ d x y o w. no-world (collection_of d) g.W.AnyWorld.world (breaks d o) w;
}
