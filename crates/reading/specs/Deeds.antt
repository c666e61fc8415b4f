-- Lines and frames that differ only in the deed numbers of their facts (docs/RULES.md, section 8).
use Rattle.std.specs.Prelude.{ℕ, ◌+◌, ◌≡◌, List, [], ◌∷◌, ◌++◌, Ok}
use Rattle.kinds.specs.declared.ConceptName.{ConceptName}
use Rattle.kinds.specs.declared.RoleName.{RoleName}
use Rattle.kinds.specs.declared.Individual.{Individual}
use Rattle.kinds.specs.declared.DeedNumber.{DeedNumber}
use Rattle.frames.specs.Frames.{FrameOf}
use Rattle.frames.specs.declared.Frame.{Frame}
use Rattle.frames.specs.declared.Frame.TheVariants.{ConceptFact, RoleFact}
use Rattle.reading.specs.declared.Refusal.{Refusal}
use Rattle.reading.specs.Tables.{concept_facts, role_facts, entries, table}
use Rattle.reading.specs.Reading.{Verdict, faulty, sound, Reading}

-- two frames are the same, or facts with the same fields but the deed number
pub data SameButDeed : Frame → Frame → Type 0 where
  same : (f : Frame) → SameButDeed f f
  concept : (A : ConceptName) (a : Individual) (n m : DeedNumber)
      → SameButDeed (ConceptFact A a n) (ConceptFact A a m)
  role : (r : RoleName) (a b : Individual) (n m : DeedNumber)
      → SameButDeed (RoleFact r a b n) (RoleFact r a b m)

-- two lines are the same, sound or not, or are frames that differ only so, whether their deed
-- numbers are typed or left out
pub data SameLine : List ℕ → List ℕ → Type 0 where
  same-line : (l : List ℕ) → SameLine l l
  same-facts : {l m : List ℕ} {f g : Frame} → FrameOf l (Ok f) → FrameOf m (Ok g)
      → SameButDeed f g → SameLine l m

-- of two rows, one by one, those at one place are related
pub data InStep {A : Type 0} (R : A → A → Type 0) : List A → List A → Type 0 where
  ended : InStep R [] []
  next : {x y : A} {xs ys : List A} → R x y → InStep R xs ys → InStep R (x ∷ xs) (y ∷ ys)

-- what two files are found to be differs only so: the same line is the first faulty one, for the
-- same reason, or both are sound
pub data SameVerdict : Verdict → Verdict → Type 0 where
  both-faulty : {fs gs : List Frame} (r : Refusal) → InStep SameButDeed fs gs
      → SameVerdict (faulty fs r) (faulty gs r)
  both-sound : {fs gs : List Frame} → InStep SameButDeed fs gs
      → SameVerdict (sound fs) (sound gs)

-- so it is of lines that differ only so
abbrev pub ReadsWithoutDeeds : Type 0
ReadsWithoutDeeds = (ls ms : List (List ℕ)) → InStep SameLine ls ms
    → (v : Verdict) → Reading [] ls v → (w : Verdict) × SameVerdict v w × Reading [] ms w

-- two facts that differ only so are both kept, wherever they stand, and both count
abbrev pub ConceptFactsKept : Type 0
ConceptFactsKept = (fs gs hs : List Frame) (A : ConceptName) (a : Individual) (n m : DeedNumber)
    → let both = fs ++ ConceptFact A a n ∷ (gs ++ ConceptFact A a m ∷ hs) in
    let facts = table concept_facts in
    (facts both
    ≡ facts fs ++ A.0 ∷ a.0 ∷ n.0 ∷ (facts gs ++ A.0 ∷ a.0 ∷ m.0 ∷ facts hs))
    × (entries concept_facts both
    ≡ entries concept_facts fs + 1 + entries concept_facts gs + 1 + entries concept_facts hs)

abbrev pub RoleFactsKept : Type 0
RoleFactsKept = (fs gs hs : List Frame) (r : RoleName) (a b : Individual) (n m : DeedNumber)
    → let both = fs ++ RoleFact r a b n ∷ (gs ++ RoleFact r a b m ∷ hs) in
    let facts = table role_facts in
    (facts both
    ≡ facts fs ++ r.0 ∷ a.0 ∷ b.0 ∷ n.0 ∷ (facts gs ++ r.0 ∷ a.0 ∷ b.0 ∷ m.0 ∷ facts hs))
    × (entries role_facts both
    ≡ entries role_facts fs + 1 + entries role_facts gs + 1 + entries role_facts hs)
