-- By its three rules.
use Rattle.theory.proofs.Onward.{onward-least}
use Rattle.theory.proofs.leaving.least_onward.Goals as goal

pub returns : goal.returns
returns g c = let 𝓛 = g.F.AnyOnward.leaving in record {
  least = λ keeps s B w. onward-least 𝓛.kind 𝓛.final g.F.AnyOnward.holds keeps.ends keeps.around keeps.deeper w;
}
