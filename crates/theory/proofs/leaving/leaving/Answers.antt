-- The way on and the walk that leads out, as paths.
use Rattle.theory.proofs.Onward.{onward↔tree, out↔path}
use Rattle.theory.proofs.leaving.leaving.Goals as goal

pub returns : goal.returns
returns g c = let 𝓛 = g.L.AnyLeaving.leaving in record {
  onward = onward↔tree 𝓛.kind 𝓛.final;
  out = out↔path 𝓛.kind 𝓛.final 𝓛.ground.has 𝓛.ground.near;
}
