-- Growth, of calls and of collections.
use Rattle.meaning.proofs.Demands as theorem
use Rattle.meaning.proofs.Larger.{contradiction-grows, yes-grows, leaves-grows}
use Rattle.meaning.proofs.calls.growth.Goals as goal

pub returns : goal.returns
returns c = record {
  answers = λ d f m s s' e e' r q x y x' y' o p. theorem.grows d f m.larger m.ask s s' e e' o p;
  contradiction = λ 𝓒 𝓓 more ok ok'. contradiction-grows more ok ok';
  yes = λ 𝓒 𝓓 more ok ok'. yes-grows more ok ok';
  leaves = λ 𝓒 𝓓 more ok ok'. leaves-grows more ok ok';
}
