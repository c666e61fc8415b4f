-- The individuals' walk (docs/RULES.md, section 6): by fact edges, by tests, and by the marks of
-- the loop sheet.
use Rattle.kinds.specs.declared.Individual.{Individual}
use Rattle.kinds.specs.declared.State.{State}
use Rattle.kinds.specs.declared.SignedRole.{SignedRole}
use Rattle.meaning.specs.Collection.{Collection, RoleStep}
use Rattle.theory.specs.Run.{Run}
use Rattle.theory.specs.Tree.{Stride}
use Rattle.meaning.specs.Model.{Roots, individuals}
use Rattle.meaning.specs.Lite.{lite}
use Rattle.theory.specs.Onward.{WalksOut}
use Rattle.laws.specs.Member.{◌∈◌}

-- a role step along an edge between roots
abbrev pub Near : (𝓒 : Collection) (𝓡 : Roots) → 𝓡.Root → State → 𝓡.Root → State → Type 0
Near 𝓒 𝓡 a s b t = (S : SignedRole) × RoleStep 𝓒 s S t × 𝓡.edge a S b

-- by fact edges, by tests, and from s to t at a when a has some B with (s, t, B)
abbrev pub IndividualsWalk : Collection → Individual → State → Individual → State → Type 0
IndividualsWalk 𝓒 = Run (Stride (lite 𝓒) (individuals 𝓒).has (Near 𝓒 (individuals 𝓒)))

-- it leads out: to a final state, or to an individual below which the way leads on to one
abbrev pub IndividualsWalkOut : Collection → Individual → State → Type 0
IndividualsWalkOut 𝓒 =
    WalksOut (lite 𝓒) (individuals 𝓒).has (Near 𝓒 (individuals 𝓒)) (λ t. t ∈ 𝓒.finals)
