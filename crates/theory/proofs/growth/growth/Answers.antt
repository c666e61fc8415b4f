-- Growth, for any rules' kind.
use Rattle.theory.proofs.GrowthLaws.{loop-grows, walk-grows, path-grows}
use Rattle.theory.proofs.growth.growth.Goals as goal

pub returns : goal.returns
returns g c = let 𝓖 = g.G.AnyGrowing.growing in record {
  loops = λ B s t l. loop-grows 𝓖.grows l;
  walks = λ a b s t w. walk-grows 𝓖.grows 𝓖.root 𝓖.has-more 𝓖.nearer w;
  paths = λ a b s t p. path-grows 𝓖.grows 𝓖.root 𝓖.has-more 𝓖.nearer p;
}
