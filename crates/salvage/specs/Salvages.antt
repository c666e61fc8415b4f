-- Salvage of a row of entries, whatever an entry is and whenever entries clash: in order, each is
-- kept unless it clashes with those kept before it (docs/RULES.md, section 13).
use Rattle.std.specs.Prelude.{Bool, true, false, List, [], ◌∷◌, ◌++◌}

-- the row with one more at its end
infixl 60 ◌◂◌
abbrev pub ◌◂◌ : {F : Type 0} → List F → F → List F
◌◂◌ l x = l ++ (x ∷ [])

-- those whose mark is so; what has no mark counts as kept
abbrev pub marked : {F : Type 0} → Bool → List F → List Bool → List F
marked w [] bs = []
marked true (x ∷ xs) [] = x ∷ xs
marked false (x ∷ xs) [] = []
marked true (x ∷ xs) (true ∷ bs) = x ∷ marked true xs bs
marked true (x ∷ xs) (false ∷ bs) = marked true xs bs
marked false (x ∷ xs) (true ∷ bs) = marked false xs bs
marked false (x ∷ xs) (false ∷ bs) = x ∷ marked false xs bs

module _ {F : Type 0} (Clashes : List F → Type 0) where
  -- those kept before, those still to come, and a mark for each of these: true where it is kept
  pub data Salvages : List F → List F → List Bool → Type 0 where
    done : {kept : List F} → Salvages kept [] []
    keeps : {kept rest : List F} {x : F} {marks : List Bool} → ¬ Clashes (kept ◂ x)
        → Salvages (kept ◂ x) rest marks → Salvages kept (x ∷ rest) (true ∷ marks)
    drops : {kept rest : List F} {x : F} {marks : List Bool} → Clashes (kept ◂ x)
        → Salvages kept rest marks → Salvages kept (x ∷ rest) (false ∷ marks)
