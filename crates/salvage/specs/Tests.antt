-- Salvage by the tests of single facts, one entry after the other.
use Rattle.std.specs.Prelude.{Bool, true, false, Option, None, Some, List, [], ◌∷◌}
use Rattle.meaning.specs.Collection.{Collection}
use Rattle.salvage.specs.Salvages.{◌◂◌}
use Rattle.salvage.specs.Facts.{Fact, of, between}
use Rattle.salvage.specs.Touching.{NameTest, RoleTest}

-- the test of a fact against those kept before it
abbrev pub Fails : Collection → List Fact → Fact → Type 0
Fails 𝓒 l (of A a) = NameTest 𝓒 l A a
Fails 𝓒 l (between r a b) = RoleTest 𝓒 l r a b

module _ (𝓒 : Collection) where
  -- the facts kept before, the entries still to come, and a mark for each of these
  pub data Tested : List Fact → List (Option Fact) → List Bool → Type 0 where
    none : {kept : List Fact} → Tested kept [] []
    other : {kept : List Fact} {rest : List (Option Fact)} {marks : List Bool}
        → Tested kept rest marks → Tested kept (None ∷ rest) (true ∷ marks)
    good : {kept : List Fact} {rest : List (Option Fact)} {x : Fact} {marks : List Bool}
        → ¬ Fails 𝓒 kept x → Tested (kept ◂ x) rest marks
        → Tested kept (Some x ∷ rest) (true ∷ marks)
    bad : {kept : List Fact} {rest : List (Option Fact)} {x : Fact} {marks : List Bool}
        → Fails 𝓒 kept x → Tested kept rest marks
        → Tested kept (Some x ∷ rest) (false ∷ marks)
