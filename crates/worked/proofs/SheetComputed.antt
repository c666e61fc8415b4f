-- The sheet of a collection after so many rounds as it is computed, declared place by declared place: it has the marks of the definition.
use Rattle.std.specs.Prelude.{Bool, ℕ, T}
use Rattle.kinds.specs.declared.State.{State}
use Rattle.kinds.specs.declared.Concept.{Concept}
use Rattle.theory.specs.Sheet.{Markable, Mark}
use Rattle.theory.proofs.Tests.{Spot, at}
use Rattle.meaning.specs.Collection.{Collection, NumbersDeclared}
use Rattle.meaning.specs.Lite.{lite}
use Rattle.meaning.proofs.LiteTests.{lite_tests}
use Rattle.meaning.proofs.LiteSheet.{lite_after, lite-after, lite-mark-in, lite-mark-out}

module _ (𝓒 : Collection) where
  abbrev pub Spots : Type 0
  Spots = Spot (lite 𝓒) (lite_tests 𝓒)

  abbrev pub spot_marked : ℕ → Spots → Bool
  spot_marked n = at (lite 𝓒) (lite_tests 𝓒) (lite_after 𝓒 n)

  module _ (ok : NumbersDeclared 𝓒) (n : ℕ) (s t : State) (B : Concept) where
    pub marked-in : Mark (lite 𝓒) n s t B → T (spot_marked n ((s, t), B))
    marked-in m = rw (lite-after 𝓒 ok n) (lite-mark-in 𝓒 ok n s t B m)

    pub marked-out : Markable (lite 𝓒) s t B → T (spot_marked n ((s, t), B)) → Mark (lite 𝓒) n s t B
    marked-out p h = lite-mark-out 𝓒 ok n s t B p (rw (lite-after 𝓒 ok n) at h)
